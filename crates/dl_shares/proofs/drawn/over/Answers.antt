use Rattle.dl_shares.proofs.Common.{◌also◌}
use Rattle.std.proofs.Common.{arith, ap, length, subst, sym, ◌∙◌}
use Rattle.dl_plan.specs.Count.{IsUnbounded}
use Rattle.dl_plan.specs.declared.plan.Unit.{Unit as UnitOfPlan}
use Rattle.dl_shares.proofs.Origins.{plan_scale, same_unit, scale_least, source_over, valid_there}
use Rattle.dl_shares.proofs.drawn.over.Goals as goal

pub of-requires : goal.of-requires
of-requires g c =
    let grid = c.requires.grid in
    let unit = c.requires.unit in
    (omega arith) also (omega arith)
    also valid_there c.args.i c.as_slice.ensures c.index-as_slice-i.is unit.unit unit.at.valid
    also subst (λ (v : UnitOfPlan). IsUnbounded v.freq)
    (same_unit c.args.plan.now c.args.i c.as_slice.ensures c.index-as_slice-i.is unit.unit grid.is) grid.unbounded
    also (omega (arith, grid.bounded, scale_least g.row.B (plan_scale g.row.B c.args.plan.now.cells unit.at.scale)))

pub returns-clause-source : goal.returns-clause-source
returns-clause-source g c =
    source_over _ c.requires.grid (c.of.ensures.unit ∙ sym (same_unit c.args.plan.now c.args.i c.as_slice.ensures
    c.index-as_slice-i.is c.requires.unit.unit c.requires.grid.is)) c.of.ensures.grid

pub returns-clause-reach : goal.returns-clause-reach
returns-clause-reach g c = ap length c.of.ensures.grid
