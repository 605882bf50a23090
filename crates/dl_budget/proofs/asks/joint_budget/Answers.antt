use Rattle.dl_budget.proofs.Common.{◌^◌}
use Rattle.dl_budget.proofs.SharedUnits.{factor_of, joint_value, read_valid, unbounded_there}
use Rattle.dl_budget.proofs.Sums.{unit_there}
use Rattle.dl_budget.proofs.asks.joint_budget.Goals as goal

pub raised_budget-raised-requires-clause-valid : goal.raised_budget-raised-requires-clause-valid
raised_budget-raised-requires-clause-valid g c =
    read_valid c.args.plan.now c.as_slice-units.result.now c.requires.unit.on.valid c.as_slice-units.ensures

pub raised_budget-raised-requires-clause-factor : goal.raised_budget-raised-requires-clause-factor
raised_budget-raised-requires-clause-factor g c =
    factor_of c.args.plan.now c.in-Some.shape c.requires.unit.on.valid c.in-Some.is c.as_slice-units.result.now
    c.as_slice-units.ensures

pub shared_joint_budget-requires-clause-valid : goal.shared_joint_budget-requires-clause-valid
shared_joint_budget-requires-clause-valid g c = (
  c.args.plan.now.cells,
  unit_there c.args.plan.now _ c.args.i _
      c.requires.unit.on.valid c.requires.unit.unit c.as_slice-units.ensures c.index-units-i.is,
)

pub shared_joint_budget-requires-clause-unbounded : goal.shared_joint_budget-requires-clause-unbounded
shared_joint_budget-requires-clause-unbounded g c =
    unbounded_there c.args.plan.now c.in-Some.shape c.requires.unit.on.valid c.in-Some.is c.as_slice-units.result.now
    c.as_slice-units.ensures c.args.i _ c.requires.unit.unit c.index-units-i.is

pub returns-in-Some-clause-value : goal.returns-in-Some-clause-value
returns-in-Some-clause-value g c =
    joint_value c.args.plan.now c.in-Some.shape c.requires.unit.on.valid c.in-Some.is c.as_slice-units.result.now
    c.as_slice-units.ensures c.args.i _ c.requires.unit.unit c.index-units-i.is (2 ^ g.row.B) _ _
    c.raised_budget-raised.ensures.value c.shared_joint_budget.ensures.value
