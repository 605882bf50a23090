use Rattle.dl_budget.proofs.Common.{◌*◌, ◌^◌, arith, ap, ap₂, ◌∙◌, convolution_spread, mul-le-mul}
use Rattle.dl_budget.proofs.Horizons.{unit_horizon, few_cells}
use Rattle.dl_budget.proofs.Sums.{budget_here, read_unit, unit_there}
use Rattle.dl_budget.proofs.asks.joint_alone.Goals as goal

pub unit_budget-unit-requires-clause-horizon : goal.unit_budget-unit-requires-clause-horizon
unit_budget-unit-requires-clause-horizon g c =
    unit_horizon c.args.plan.now.cells c.index-as_slice-i.result
    (omega (arith, (few_cells c.args.plan.now c.requires.unit.on.valid).1))
    (unit_there c.args.plan.now _ c.args.i _ c.requires.unit.on.valid c.requires.unit.unit c.as_slice.ensures c.index-as_slice-i.is)

pub overflow_mul-result : goal.overflow_mul-result
overflow_mul-result g c =
    omega (arith, mul-le-mul (few_cells c.args.plan.now c.requires.unit.on.valid).1 c.convolution_spread.ensures.small)

pub returns-clause-value : goal.returns-clause-value
returns-clause-value g c =
    let plan = c.args.plan.now in
    ap (λ t. plan.cells * t) (c.convolution_spread.ensures.value ∙ ap₂ (convolution_spread (2 ^ g.row.B) plan.cells)
    (budget_here (2 ^ g.row.B) plan.cells plan.units c.args.i _ c.index-as_slice-i.result c.requires.unit.unit
    (read_unit _ plan.units c.args.i _ c.as_slice.ensures c.index-as_slice-i.is) c.unit_budget-unit.ensures.value)
    c.others_budget.ensures.value)

pub returns-clause-small : goal.returns-clause-small
returns-clause-small g c =
    omega (arith, mul-le-mul (few_cells c.args.plan.now c.requires.unit.on.valid).1 c.convolution_spread.ensures.small)
