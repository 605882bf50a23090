-- The units so far.
use Rattle.dl_pool.proofs.Common.{◌≡◌, map, take, unit_share, lent}
use Rattle.dl_pool.proofs.shares.shares.Given as goal

abbrev pub invariant-units : goal.invariant-units
invariant-units l = l.made.items ≡ map (unit_share l.all) (take l.unit-index (lent l.units))
