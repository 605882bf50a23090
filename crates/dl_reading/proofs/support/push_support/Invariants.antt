-- The amounts of positive probability that were read stand behind the others.
use Rattle.dl_reading.proofs.Common.{◌≡◌, ◌++◌, atom_probs}
use Rattle.dl_reading.proofs.Positive.{support_to}
use Rattle.dl_reading.proofs.support.push_support.Given as goal

abbrev pub invariant-amounts : goal.invariant-amounts
invariant-amounts l = l.made.items ≡ l.initial.made.items ++ support_to l.fn.atom.amounts (atom_probs l.fn.atom) l.at
