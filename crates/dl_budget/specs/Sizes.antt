-- How large the budget of a sum of units can be, so that no step passes 128 bits. A unit whose
-- probability of no claim is changed can have a budget 18 times as large as another.
use Rattle.std.specs.Prelude.{ℕ, ◌≤◌, Option, None, Some, List, sum_by}
use Rattle.dl_limits.specs.Limits.{most_cells, most_claims_budget, most_clause_budget, most_expected, most_unit_budget, most_clause_mean_budget, most_unit_mean_budget}
use Rattle.dl_exact.specs.Fraction.{Fraction, whole, ◌/ℚ◌, ◌<ℚ◌, ◌≤ℚ◌}
use Rattle.dl_frac.specs.Exact.{FitsFrac}
use Rattle.dl_grid.specs.Width.{rounded_spread, IsSizeWithin}
use Rattle.dl_plan.specs.declared.plan.Unit.{Unit as UnitOfPlan}
use Rattle.dl_plan.specs.Prelude.{IsShape}
use Rattle.dl_budget.specs.Claims.{shape_spread}

-- a gamma count that can be counted with on so many cells: its mean is at most 4,096, and its mean
-- over its shape is held; the base of a shape below 1 is within the budget of any unit's claims
pub record IsGammaOn (cells : ℕ) (shape mean : Fraction) : Type 0 where
  pub few : cells ≤ most_cells
  pub of_shape : IsShape shape
  pub within : mean ≤ℚ whole most_expected
  pub beta : FitsFrac (mean /ℚ shape)
  pub below_one : shape <ℚ whole 1 → shape_spread cells (mean /ℚ shape) ≤ most_claims_budget

-- the greatest budget of a unit
abbrev pub most_budget_of : Option Fraction → ℕ
most_budget_of None = most_clause_budget
most_budget_of (Some p) = most_unit_budget

-- that of its mean
abbrev pub most_mean_budget_of : Option Fraction → ℕ
most_mean_budget_of None = most_clause_mean_budget
most_mean_budget_of (Some p) = most_unit_mean_budget

-- the greatest budgets of these units, each with what one convolution on so many cells rounds,
-- added up
abbrev pub operands : (cells : ℕ) → List UnitOfPlan → ℕ
operands cells units = sum_by (λ u. rounded_spread cells 0 (most_budget_of u.zero)) units

-- x is not too large for the sum, on so many cells, of units whose operands come to c
abbrev pub IsOfUnits : (S cells c x : ℕ) → Type 0
IsOfUnits S cells c x = IsSizeWithin S c (rounded_spread cells 0 x)
