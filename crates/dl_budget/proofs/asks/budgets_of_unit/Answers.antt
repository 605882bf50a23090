use Rattle.dl_budget.proofs.Common.{◌^◌}
use Rattle.dl_budget.proofs.Sums.{read_unit, unit_there}
use Rattle.dl_budget.proofs.TailShares.{mean_here}
use Rattle.dl_budget.proofs.asks.budgets_of_unit.Goals as goal

pub unit_mean_budget-requires-clause-valid : goal.unit_mean_budget-requires-clause-valid
unit_mean_budget-requires-clause-valid g c =
    unit_there c.args.plan.now _ c.args.i _ c.requires.unit.on.valid c.requires.unit.unit c.as_slice.ensures c.index-as_slice-i.is

pub returns-clause-are : goal.returns-clause-are
returns-clause-are g c =
    let plan = c.args.plan.now in
    let is = read_unit c.as_slice.result.now plan.units c.args.i c.index-as_slice-i.result c.as_slice.ensures
    c.index-as_slice-i.is in record {
      unit = c.requires.unit.unit;
      joint = c.joint_budget.ensures.value;
      mean = mean_here (2 ^ g.row.B) plan.cells plan.units c.args.i _ c.index-as_slice-i.result c.requires.unit.unit is
          c.unit_mean_budget.ensures.value;
      joint_small = c.joint_budget.ensures.small;
      mean_small = c.unit_mean_budget.ensures.small;
    }
