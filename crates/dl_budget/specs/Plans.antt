-- Valid plans whose budgets are wanted.
use Rattle.std.specs.Prelude.{ℕ, ◌<◌, length}
use Rattle.dl_limits.specs.Limits.{IsPlanScale}
use Rattle.dl_plan.specs.declared.plan.Plan.{Plan}
use Rattle.dl_plan.specs.Valid.{IsValid}

-- a valid plan, and budgets in units of 1 / 2^B, at any scale that a plan may have
pub record IsPlanOn (B : ℕ) (plan : Plan) : Type 0 where
  pub scale : IsPlanScale B
  pub valid : IsValid plan

-- the same, with a unit i, counted from 0
pub record HasUnitOn (B : ℕ) (plan : Plan) (i : ℕ) : Type 0 where
  pub on : IsPlanOn B plan
  pub unit : i < length plan.units
