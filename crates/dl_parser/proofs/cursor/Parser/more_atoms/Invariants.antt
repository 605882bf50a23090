-- What the loop over atoms has read, and that tokens are taken.
use Rattle.dl_parser.proofs.Common.{◌≡◌, List, ◌++◌, length, Atom, many, read, state, atom}
use Rattle.dl_parser.proofs.Loops.{Loops}
use Rattle.dl_parser.proofs.cursor.Parser.more_atoms.Given as goal

abbrev pub invariant-atoms : goal.invariant-atoms
invariant-atoms l = record {
  source : l.self.source ≡ l.fn.self.source;
  so_far : (xs : List Atom) × (l.atoms.items ≡ l.fn.atoms.items ++ xs) × Loops atom
      (read (many atom) (state l.fn.self)) (state l.self) xs;
}

abbrev pub decreases-atoms : goal.decreases-atoms
decreases-atoms l = length l.self.rest.now
