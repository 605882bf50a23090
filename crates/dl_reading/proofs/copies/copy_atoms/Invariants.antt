-- The atoms so far are copied.
use Rattle.dl_reading.proofs.Common.{◌≡◌, take}
use Rattle.dl_reading.proofs.copies.copy_atoms.Given as goal

abbrev pub invariant-atoms : goal.invariant-atoms
invariant-atoms l = l.made.items ≡ take l.atom-index l.atoms
