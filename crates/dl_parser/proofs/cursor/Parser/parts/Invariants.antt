-- What the loop over parts has read, and that tokens are taken.
use Rattle.dl_parser.proofs.Common.{◌≡◌, length, some_of, read, state}
use Rattle.dl_parser.proofs.Loops.{Loops}
use Rattle.dl_parser.proofs.cursor.Parser.parts.Given as goal

abbrev pub invariant-parts : goal.invariant-parts
invariant-parts g l = record {
  source : l.self.source ≡ l.fn.self.source;
  so_far : Loops g.T.Part.next_rule
      (read (some_of g.T.Part.first_rule g.T.Part.next_rule) (state l.fn.self)) (state l.self) l.parts.items;
}

abbrev pub decreases-parts : goal.decreases-parts
decreases-parts g l = length l.self.rest.now
