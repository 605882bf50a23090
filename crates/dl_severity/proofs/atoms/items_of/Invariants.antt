-- The amounts and weights read so far.
use Rattle.dl_severity.proofs.Common.{◌≡◌, take, items_of}
use Rattle.dl_severity.proofs.atoms.items_of.Given as goal

abbrev pub invariant-amounts : goal.invariant-amounts
invariant-amounts l = l.items.items ≡ items_of (take l.at l.amounts) (take l.at l.weights)
