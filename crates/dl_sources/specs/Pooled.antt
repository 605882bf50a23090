-- One unit in the place of several.
use Rattle.std.specs.Prelude.{ℕ, ◌&&◌, Bool, not, List, filter}
use Rattle.dl_exact.specs.Fraction.{Fraction}
use Rattle.dl_model.specs.CommonUnits.{IsPoissonSum}
use Rattle.dl_plan.specs.declared.plan.Unit.{Unit as UnitOfPlan}
use Rattle.dl_plan.specs.declared.plan.Plan.{Plan}
use Rattle.dl_plan.specs.Prelude.{IsPlanAt, IsValidUnit, SharesFactor, can_share}
use Rattle.dl_pool.specs.Pooled.{IsPooled}

-- the units that cannot be pooled, in order
abbrev pub rest_of : List UnitOfPlan → List UnitOfPlan
rest_of units = filter (λ unit. not (can_share unit)) units

-- the same where units are pooled, and all units where none are
abbrev pub unpooled : Bool → List UnitOfPlan → List UnitOfPlan
unpooled pooled units = filter (λ unit. not (pooled && can_share unit)) units

-- one valid Poisson unit in the place of those that can
pub record IsPooledFor (plan : Plan) (made : UnitOfPlan) : Type 0 where
  pub sum : IsPoissonSum (filter can_share plan.units) made
  pub valid : IsValidUnit plan.cells made

-- a valid plan whose units share a factor, at the scale of its cells, and the one unit in the place
-- of them all
pub record IsPooledAt (B : ℕ) (plan : Plan) (made : UnitOfPlan) : Type 0 where
  pub at : IsPlanAt B plan
  pub shape : Fraction
  pub shares : SharesFactor plan shape
  pub sum : IsPooled shape plan.units made
