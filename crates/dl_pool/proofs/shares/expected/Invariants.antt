-- The units so far.
use Rattle.dl_pool.proofs.Common.{◌≡◌, take, expected_of, lent}
use Rattle.dl_pool.proofs.shares.expected.Given as goal

abbrev pub invariant-units : goal.invariant-units
invariant-units l = l.sum ≡ expected_of (take l.unit-index (lent l.units))
