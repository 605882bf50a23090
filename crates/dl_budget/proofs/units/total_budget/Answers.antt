-- The claims above 0 of all units are a gamma count that can be counted with.
use Rattle.dl_budget.proofs.Common.{subst, sym, IsGammaOn}
use Rattle.dl_budget.proofs.SharedUnits.{factor_of, read_valid, shared_on}
use Rattle.dl_budget.proofs.Horizons.{few_cells}
use Rattle.dl_budget.proofs.Sums.{room_of}
use Rattle.dl_budget.proofs.units.total_budget.Goals as goal

pub above_zero-requires-clause-valid : goal.above_zero-requires-clause-valid
above_zero-requires-clause-valid g c =
    read_valid c.args.plan.now c.as_slice-units.result.now c.requires.plan.valid c.as_slice-units.ensures

pub above_zero-requires-clause-factor : goal.above_zero-requires-clause-factor
above_zero-requires-clause-factor g c = (
  c.in-Some.shape,
  factor_of c.args.plan.now c.in-Some.shape c.requires.plan.valid c.in-Some.is
      c.as_slice-units.result.now c.as_slice-units.ensures,
)

pub gamma_budget-requires-clause-count : goal.gamma_budget-requires-clause-count
gamma_budget-requires-clause-count g c =
    subst (IsGammaOn c.args.plan.now.cells c.in-Some.shape) (sym c.above_zero.ensures)
    (shared_on c.args.plan.now.cells _ _ (few_cells c.args.plan.now c.requires.plan.valid).1
    (factor_of c.args.plan.now c.in-Some.shape c.requires.plan.valid c.in-Some.is
    c.as_slice-units.result.now c.as_slice-units.ensures))

pub sum_of-requires-clause-room : goal.sum_of-requires-clause-room
sum_of-requires-clause-room g c =
    room_of c.args.plan.now c.as_slice-units.result.now c.requires.plan.valid c.as_slice-units.ensures
