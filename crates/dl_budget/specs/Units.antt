-- The budgets of units and of their sums, in units of 1/S. Each unit has its own horizon: on so
-- many cells its claims are added up.
use Rattle.std.specs.Prelude.{ℕ, ◌+◌, ◌*◌, Option, Some, None, List, map, sum_by, remove}
use Rattle.dl_exact.specs.Fraction.{Fraction}
use Rattle.dl_grid.specs.Width.{up, sum_spread}
use Rattle.dl_plan.specs.declared.plan.Unit.{Unit as UnitOfPlan}
use Rattle.dl_plan.specs.declared.plan.Plan.{Plan}
use Rattle.dl_plan.specs.Prelude.{Clause, horizon, declared_mean, mean_width}
use Rattle.dl_budget.specs.Claims.{claims_budget, none_budget}
use Rattle.dl_budget.specs.Shared.{pooled_budget}

-- the budget of a unit's claims, and twice that with an aggregate clause
abbrev pub after_clause : Option Clause → ℕ → ℕ
after_clause None before = before
after_clause (Some clause) before = 2 * before

-- the budget of a unit whose probability of no claim is changed, from that before the change and
-- that of the probability of no claim: all is divided by the probability of a claim, at least 1/18
abbrev pub after_zero : Option Fraction → (cells none before : ℕ) → ℕ
after_zero None cells none before = before
after_zero (Some p) cells none before = 18 * (before + 2 * none) + 4 * cells + 2

-- the budget of a unit on a grid of so many cells: its claims are added up on its horizon
abbrev pub unit_budget : (S cells : ℕ) → UnitOfPlan → ℕ
unit_budget S cells u = after_zero u.zero cells (none_budget S u.freq)
    (after_clause u.cede (claims_budget S (horizon u.cede cells) u))

-- that of each unit
abbrev pub unit_budgets : (S cells : ℕ) → List UnitOfPlan → List ℕ
unit_budgets S cells units = map (unit_budget S cells) units

-- the budget of the total of units, where they are independent, or where they share a factor of
-- shape r
abbrev pub total_by : Option Fraction → (S cells : ℕ) → List UnitOfPlan → ℕ
total_by None S cells units = sum_spread S cells (unit_budgets S cells units)
total_by (Some r) S cells units = pooled_budget S cells r units

-- that of the total of a plan
abbrev pub total_budget : (S : ℕ) → Plan → ℕ
total_budget S plan = total_by plan.common S plan.cells plan.units

-- that of all units but one, where they are independent
abbrev pub others_budget : (S : ℕ) → Plan → ℕ → ℕ
others_budget S plan i = sum_spread S plan.cells (remove (unit_budgets S plan.cells plan.units) i)

-- the budget of the mean of such a unit; before the change the mean of its claims is at most `most`
abbrev pub mean_after_zero : Option Fraction → (most none before : ℕ) → ℕ
mean_after_zero None most none before = before
mean_after_zero (Some p) most none before = 18 * (before + 2) + 306 * most * none + 2

-- that of the mean of a unit
abbrev pub unit_mean_budget : (S cells : ℕ) → UnitOfPlan → ℕ
unit_mean_budget S cells u = mean_after_zero u.zero (up (declared_mean u)) (none_budget S u.freq)
    (mean_width u.cede (claims_budget S (horizon u.cede cells) u))

-- that of the mean of the total of units; of units that share a factor it is exact but for its ends
abbrev pub mean_by : Option Fraction → (S cells : ℕ) → List UnitOfPlan → ℕ
mean_by None S cells units = sum_by (unit_mean_budget S cells) units
mean_by (Some r) S cells units = 1

-- that of the mean of the total of a plan
abbrev pub mean_budget : (S : ℕ) → Plan → ℕ
mean_budget S plan = mean_by plan.common S plan.cells plan.units
