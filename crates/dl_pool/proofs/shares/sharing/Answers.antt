-- All of them can be pooled.
use Rattle.dl_pool.proofs.Common.{◌∙◌, ap, sym, subst, take, take_all, All, can_share, CanShare}
use Rattle.std.specs.List.{filter}
use Rattle.dl_pool.proofs.Units.{sharing_share}
use Rattle.dl_pool.proofs.shares.sharing.Goals as goal

pub returns-clause-can_share : goal.returns-clause-can_share
returns-clause-can_share c =
    subst (All CanShare) (sym c.units.invariant) (sharing_share (take c.units.unit-index c.args.units.now))

pub returns-clause-units : goal.returns-clause-units
returns-clause-units c = c.units.invariant ∙ ap (filter can_share) (take_all c.units.unit-index c.args.units.now c.units-test.false)
