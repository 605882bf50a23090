-- The grid and the mean of one unit, step by step, and those of several units.
use Rattle.std.specs.Prelude.{ℕ, ◌≡◌, ◌+◌, ◌≤◌, ◌^◌, Option, None, Some, IfSome, All, List, ◌++◌, length, map}
use Rattle.dl_exact.specs.Prelude.{Fraction}
use Rattle.dl_limits.specs.Limits.{most_mean_to_change, most_unit_mean}
use Rattle.dl_iv.specs.declared.interval.Iv.{Iv}
use Rattle.dl_grid.specs.Cells.{spread}
use Rattle.dl_model.specs.Prelude.{GridEncloses, mapped, aggregate_of, compound_of, loss_of}
use Rattle.dl_plan.specs.declared.plan.Unit.{Unit as UnitOfPlan}
use Rattle.dl_plan.specs.Prelude.{IsHorizonOf, horizon, mean_width}
use Rattle.dl_outcomes.specs.Means.{HoldsKept}
use Rattle.dl_budget.specs.Prelude.{claims_budget, after_clause}
use Rattle.dl_totals.specs.Shared.{EnclosesSum}
use Rattle.dl_shares.specs.Drawn.{IsUnitGrid, IsUnitMean, AreUnitGrids, AreUnitMeans}
use Rattle.dl_sources.specs.declared.units.Outcome.{Outcome}
use Rattle.dl_sources.specs.declared.outcomes.Outcomes.{Outcomes}

-- ---- one unit

-- the high end of the mean of a unit before its probability of no claim is changed, where it is:
-- at most 4,096 claims are expected then
abbrev pub most_clause_mean : Option Fraction → ℕ
most_clause_mean None = most_unit_mean
most_clause_mean (Some p) = most_mean_to_change

-- a grid of the sum of a unit's claims before its aggregate clause, on the horizon that the clause
-- has for a grid of so many cells, within its budget
pub record IsClaimsSum {B : ℕ} (cells : ℕ) (u : UnitOfPlan) (g : List (Iv B)) : Type 0 where
  pub horizon : IsHorizonOf u.cede cells (length g)
  pub encloses : GridEncloses g (compound_of u.freq u.sev)
  pub narrow : spread g ≤ claims_budget (2 ^ B) (length g) u

-- a grid of so many cells of a unit's outcomes after its aggregate clause, before its probability
-- of no claim is changed, within its budget
pub record IsClauseGrid {B : ℕ} (many : ℕ) (u : UnitOfPlan) (g : List (Iv B)) : Type 0 where
  pub cells : length g ≡ many
  pub encloses : GridEncloses g (mapped (aggregate_of u))
  pub narrow : spread g ≤ after_clause u.cede (claims_budget (2 ^ B) (horizon u.cede many) u)

-- the mean of these, within its budget
pub record IsClauseMean {B : ℕ} (cells : ℕ) (u : UnitOfPlan) (mean : Iv B) : Type 0 where
  pub holds : HoldsKept u mean
  pub narrow : mean.hi
      ≤ mean.lo + mean_width u.cede (claims_budget (2 ^ B) (horizon u.cede cells) u)

-- the grid and the mean of a unit's outcomes
pub record IsOutcomeOf {B : ℕ} (cells : ℕ) (u : UnitOfPlan) (made : Outcome B) : Type 0 where
  pub grid : IsUnitGrid cells u made.grid
  pub mean : IsUnitMean cells u made.mean
  pub small : made.mean.hi ≤ most_unit_mean

-- ---- several units

-- one mean for each unit, in order, none above the most that one can have
pub record AreMeansOf {B : ℕ} (cells : ℕ) (units : List UnitOfPlan)
    (ends : List (Iv B)) : Type 0 where
  pub means : AreUnitMeans cells units ends
  pub small : All (λ mean. mean.hi ≤ most_unit_mean) ends

-- the grids of some units and the means of some, in order
pub record AreOutcomesOf {B : ℕ} (cells : ℕ) (gridded units : List UnitOfPlan)
    (made : Outcomes B) : Type 0 where
  pub grids : AreUnitGrids cells gridded made.grids.items
  pub means : AreMeansOf cells units made.means.items

-- the means of these units stand behind those of other units
abbrev pub AddMeans : {B : ℕ} → ℕ → List UnitOfPlan → List (Iv B) → List (Iv B) → Type 0
AddMeans cells units old new = (before : List UnitOfPlan) → AreMeansOf cells before old
    → AreMeansOf cells (before ++ units) new

-- a grid of so many cells of the sum of the outcomes of some units; none where there are no units
pub record IsSumOfUnits {B : ℕ} (many : ℕ) (units : List UnitOfPlan)
    (sum : Option (List (Iv B))) : Type 0 where
  pub cells : IfSome sum (λ g. length g ≡ many)
  pub encloses : EnclosesSum sum (map loss_of units)
