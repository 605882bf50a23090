-- The budgets of a plan that most asks need.
use Rattle.std.specs.Prelude.{ℕ, ◌≡◌, ◌<◌, ◌≤◌, List, Option, None, Some, IfSome, IsSome, Any, length, get_or, map, option_map}
use Rattle.dl_limits.specs.Limits.{budget_bound, most_mean_budget, most_joint_budget, most_unit_mean_budget}
use Rattle.dl_plan.specs.declared.plan.Plan.{Plan}
use Rattle.dl_plan.specs.Valid.{IsValid}
use Rattle.dl_budget.specs.declared.once.Budgets.{Budgets}
use Rattle.dl_budget.specs.declared.once.UnitBudgets.{UnitBudgets}
use Rattle.dl_budget.specs.declared.named.AllBudgets.{AllBudgets}
use Rattle.dl_budget.specs.Asks.{joint_budget}
use Rattle.dl_budget.specs.Units.{total_budget, unit_mean_budget, mean_budget}

-- the budgets of the plan's total and of its mean, neither too large to count with
pub record AreBudgetsOf (S : ℕ) (plan : Plan) (budgets : Budgets) : Type 0 where
  pub total : budgets.total ≡ total_budget S plan
  pub mean : budgets.mean ≡ mean_budget S plan
  pub total_small : budgets.total < budget_bound
  pub mean_small : budgets.mean ≤ most_mean_budget

-- a valid plan and its budgets
pub record HasBudgets (S : ℕ) (plan : Plan) (budgets : Budgets) : Type 0 where
  pub valid : IsValid plan
  pub are : AreBudgetsOf S plan budgets

-- the budgets of one of the plan's units: of its share in a total, and of its mean
pub record AreUnitBudgets (S : ℕ) (plan : Plan) (of : UnitBudgets) : Type 0 where
  pub unit : of.unit < length plan.units
  pub joint : of.joint ≡ joint_budget S plan of.unit
  pub mean : of.mean ≡ get_or (map (unit_mean_budget S plan.cells) plan.units) of.unit 0
  pub joint_small : of.joint ≤ most_joint_budget
  pub mean_small : of.mean ≤ most_unit_mean_budget

-- the budgets of the unit with this number; none if there is no number
pub record AreBudgetsOfUnit (S : ℕ) (plan : Plan) (number : Option ℕ) (of : Option UnitBudgets) : Type 0 where
  pub unit : option_map (λ u. u.unit) of ≡ number
  pub are : IfSome of (AreUnitBudgets S plan)

-- the budgets of unit i
pub record IsBudgetOf (S : ℕ) (plan : Plan) (i : ℕ) (of : UnitBudgets) : Type 0 where
  pub unit : of.unit ≡ i
  pub are : AreUnitBudgets S plan of

-- the budgets of the total, and for each unit, where they are there, its own
pub record AreAllBudgets (S : ℕ) (plan : Plan) (budgets : AllBudgets) : Type 0 where
  pub total : AreBudgetsOf S plan budgets.of_total
  pub as_many : length budgets.of_units.items ≡ length plan.units
  pub each : (i : ℕ) → i < length plan.units
      → IfSome (get_or budgets.of_units.items i None) (IsBudgetOf S plan i)

-- those of each unit that an ask names are there
abbrev pub HaveBudgets : Plan → List (Option ℕ) → AllBudgets → Type 0
HaveBudgets plan named budgets = (i : ℕ) → i < length plan.units
    → Any (λ unit. unit ≡ Some i) named → IsSome (get_or budgets.of_units.items i None)
