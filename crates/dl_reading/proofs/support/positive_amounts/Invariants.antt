-- The amounts of positive probability of the atoms that were read.
use Rattle.dl_reading.proofs.Common.{◌≡◌, atom_pairs, support, weights_of}
use Rattle.dl_reading.proofs.Positive.{mixed_to}
use Rattle.dl_reading.proofs.support.positive_amounts.Given as goal

abbrev pub invariant-atoms : goal.invariant-atoms
invariant-atoms l = l.made.items ≡ support (mixed_to atom_pairs (weights_of l.fn.unit.sev) l.fn.unit.sev.atoms l.at)
