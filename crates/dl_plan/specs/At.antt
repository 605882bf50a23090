-- A valid plan or unit, with the scale that goes with its number of cells: what functions that make
-- grids of one ask for.
use Rattle.std.specs.Prelude.{ℕ, ◌≡◌, ◌<◌, ◌≤◌, None, length}
use Rattle.dl_limits.specs.Limits.{bits_of, most_plan_cells}
use Rattle.dl_plan.specs.declared.plan.Unit.{Unit as UnitOfPlan}
use Rattle.dl_plan.specs.declared.plan.Plan.{Plan}
use Rattle.dl_plan.specs.Valid.{IsValid, IsValidUnit}

-- a valid plan, whose grids are in units of 1 / 2^B
pub record IsPlanAt (B : ℕ) (plan : Plan) : Type 0 where
  pub scale : B ≡ bits_of plan.cells
  pub valid : IsValid plan

-- the same, with a unit i, counted from 0
pub record IsUnitAt (B : ℕ) (plan : Plan) (i : ℕ) : Type 0 where
  pub at : IsPlanAt B plan
  pub unit : i < length plan.units

-- the same, whose units are independent
pub record IsIndependentAt (B : ℕ) (plan : Plan) : Type 0 where
  pub at : IsPlanAt B plan
  pub independent : plan.common ≡ None

-- a unit of a valid plan of so many cells, whose grids are in units of 1 / 2^B
pub record IsUnitOn (B cells : ℕ) (unit : UnitOfPlan) : Type 0 where
  pub scale : B ≡ bits_of cells
  pub some : 1 ≤ cells
  pub few : cells ≤ most_plan_cells
  pub valid : IsValidUnit cells unit
