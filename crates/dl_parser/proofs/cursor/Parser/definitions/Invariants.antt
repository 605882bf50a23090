-- What the loop over definitions has read, and that tokens are taken.
use Rattle.dl_parser.proofs.Common.{◌≡◌, length, many, read, state, sevdef}
use Rattle.dl_parser.proofs.Loops.{Loops}
use Rattle.dl_parser.proofs.cursor.Parser.definitions.Given as goal

abbrev pub invariant-definitions : goal.invariant-definitions
invariant-definitions l = record {
  source : l.self.source ≡ l.fn.self.source;
  so_far : Loops sevdef (read (many sevdef) (state l.fn.self)) (state l.self) l.made.items;
}

abbrev pub decreases-definitions : goal.decreases-definitions
decreases-definitions l = length l.self.rest.now
