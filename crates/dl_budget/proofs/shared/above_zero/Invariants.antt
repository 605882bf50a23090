-- The units so far.
use Rattle.dl_budget.proofs.Common.{◌≡◌, take, thinned_of}
use Rattle.dl_budget.proofs.shared.above_zero.Given as goal

abbrev pub invariant-units : goal.invariant-units
invariant-units l = l.sum ≡ thinned_of (take l.unit-index l.units)
