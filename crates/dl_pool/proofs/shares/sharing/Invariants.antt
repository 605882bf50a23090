-- The units so far.
use Rattle.dl_pool.proofs.Common.{◌≡◌, take, lent, can_share}
use Rattle.std.specs.List.{filter}
use Rattle.dl_pool.proofs.shares.sharing.Given as goal

abbrev pub invariant-units : goal.invariant-units
invariant-units l = lent l.made.items ≡ filter can_share (take l.unit-index l.units)
