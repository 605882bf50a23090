-- The units so far.
use Rattle.dl_pool.proofs.Common.{◌≡◌, map, take, pairs_of, lent}
use Rattle.dl_pool.proofs.copies.severities.Given as goal

abbrev pub invariant-units : goal.invariant-units
invariant-units l = map pairs_of l.made.items ≡ map (λ u. pairs_of u.sev) (take l.unit-index (lent l.units))
