use Rattle.dl_sources.proofs.Common.{arith, few_cells, unit_horizon, if_ok_three, ◌also◌}
use Rattle.dl_sources.proofs.Scales.{grid_size, plan_scale}
use Rattle.dl_sources.proofs.PooledUnits.{raised_unit_valid, raised_claims}
use Rattle.dl_sources.proofs.factor.raised_grid.Goals as goal

pub raised-requires : goal.raised-requires
raised-requires g c =
    let pooled = c.requires.pooled in (c.args.plan.now, pooled.shape, pooled.shares, pooled.sum)

pub unit_grid_with-requires : goal.unit_grid_with-requires
unit_grid_with-requires g c =
    let plan = c.args.plan.now in
    let pooled = c.requires.pooled in
    let few = few_cells plan pooled.at.valid in
    let size = grid_size g.row.B plan.cells pooled.at.scale few.0 few.1 in
    (omega arith) also record {
      scale_above = size.scale_above;
      scale_below = size.scale_below;
      some = c.requires.some;
      few = omega (arith, size.few, c.requires.within);
    } also (
      plan.cells,
      raised_unit_valid pooled.shares _ (c.in_ok-unit.ensures.raised plan pooled.shape pooled.shares pooled.sum),
    )

pub unit_budget-requires : goal.unit_budget-requires
unit_budget-requires g c =
    let plan = c.args.plan.now in
    let pooled = c.requires.pooled in
    let few = few_cells plan pooled.at.valid in
    let made = c.in_ok-unit.ensures.raised plan pooled.shape pooled.shares pooled.sum in
    let valid = raised_unit_valid pooled.shares _ made in
    record {
      scale = plan_scale g.row.B plan.cells pooled.at.scale;
      valid = (plan.cells, valid);
      some = few.0;
      few = few.1;
      horizon = unit_horizon plan.cells _ few.1 valid;
    }

pub returns-clause-grid : goal.returns-clause-grid
returns-clause-grid g c =
    let pooled = c.requires.pooled in
    if_ok_three c.unit_grid_with.result _ _ _ _ (λ grid cells encloses spread.
    raised_claims pooled.shares _ (c.in_ok-unit.ensures.raised c.args.plan.now pooled.shape pooled.shares pooled.sum)
    c.requires.within cells encloses spread (omega (arith, c.unit_budget.ensures.value, c.if-prove.false)))
    c.unit_grid_with.ensures.cells c.unit_grid_with.ensures.encloses c.unit_grid_with.ensures.spread
