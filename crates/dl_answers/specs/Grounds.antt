-- What rows are drawn from, and what is printed.
use Rattle.std.specs.Prelude.{ℕ, ◌≡◌, ◌+◌, ◌*◌, ◌/◌, ◌-◌, ◌^◌, ◌<◌, ◌≤◌, Option, None, IsSome, All, List, [], length, get_or}
use Rattle.std.specs.Int.{div_ceil}
use Rattle.dl_exact.specs.Fraction.{Fraction, ◌over◌}
use Rattle.dl_limits.specs.Limits.{most_unit_mean}
use Rattle.dl_iv.specs.declared.interval.Iv.{Iv}
use Rattle.dl_grid.specs.Cells.{low_at}
use Rattle.dl_measures.specs.Prelude.{low_cdf}
use Rattle.dl_model.specs.Prelude.{Joint}
use Rattle.dl_plan.specs.At.{IsPlanAt, IsUnitAt}
use Rattle.dl_plan.specs.declared.plan.Plan.{Plan}
use Rattle.dl_plan.specs.declared.plan.Unit.{Unit as UnitOfPlan}
use Rattle.dl_plan.specs.declared.settings.Ask.{Ask}
use Rattle.dl_plan.specs.declared.settings.Ask.TheVariants.{Cotail, Share}
use Rattle.dl_plan.specs.declared.settings.Asked.{Asked}
use Rattle.dl_plan.specs.Prelude.{facts_of}
use Rattle.dl_budget.specs.Asks.{IsAskOf, joint_budget, named_unit}
use Rattle.dl_budget.specs.declared.named.AllBudgets.{AllBudgets}
use Rattle.dl_shares.specs.Drawn.{AreDrawnOf, AreSumsOf, Declares, IsSourceOf, IsTotalOf, IsUnitMean, Reaches}
use Rattle.dl_shares.specs.Source.{reach}
use Rattle.dl_shares.specs.declared.drawn.Drawn.{Drawn}
use Rattle.dl_report.specs.declared.report.End.TheVariants.{Number}
use Rattle.dl_report.specs.declared.report.Row.{Row}
use Rattle.dl_answers.specs.Answers.{HasShare}
use Rattle.dl_answers.specs.declared.reports.Ground.{Ground}
use Rattle.dl_answers.specs.declared.shares.Part.{Part}

-- ---- what asks look at

-- how many cells of a grid an ask looks at, where there are so many: all, for a share of the tail
-- mean
abbrev pub cells_read : ℕ → Ask → ℕ
cells_read cells (Cotail unit p) = cells
cells_read cells (Share unit p) = cells
cells_read cells ask = (facts_of ask).least_cells

-- the joint means of each unit that has its budgets are drawn at the totals below `reach`, and no
-- ask looks at greater ones
pub record AreReached {B : ℕ} (plan : Plan) (asks : List Asked) (budgets : AllBudgets)
    (drawn : Drawn B) : Type 0 where
  pub reach : ℕ
  pub inside : All (λ asked. cells_read plan.cells asked.ask ≤ reach) asks
  pub each : (i : ℕ) → i < length plan.units → IsSome (get_or budgets.of_units.items i None)
      → Reaches drawn i reach

-- an ask about the plan that is admitted, and the number of the unit that it names, if it names one
pub record IsAskAbout (plan : Plan) (unit : Option ℕ) (ask : Ask) : Type 0 where
  pub of : IsAskOf plan ask
  pub share : HasShare plan ask
  pub number : unit ≡ named_unit plan.units ask

-- ---- what rows are drawn from

-- a valid plan, the grids and means that are drawn from it, and the running sums of these grids
pub record IsGround {B : ℕ} (ground : Ground B) : Type 0 where
  pub plan : IsPlanAt B ground.plan.now
  pub drawn : AreDrawnOf ground.plan.now ground.drawn.now
  pub sums : AreSumsOf ground.drawn.now ground.sums.now

-- the grid of the total
abbrev pub total_of : {B : ℕ} → Ground B → List (Iv B)
total_of ground = get_or ground.sums.now 0 []

-- a unit of a valid plan, what its joint means come from, its mean, and the grid of the total
pub record IsPart {B : ℕ} (part : Part B) : Type 0 where
  pub unit : IsUnitAt B part.plan.now part.i
  pub total : IsTotalOf part.plan.now part.total.now
  pub source : IsSourceOf part.plan.now part.i part.source
  pub within : reach part.source ≤ part.plan.now.cells
  pub mean : (u : UnitOfPlan)
      → IsUnitMean part.plan.now.cells (get_or part.plan.now.units part.i u) part.mean
  pub small : part.mean.hi ≤ most_unit_mean

-- ---- shares

-- the joint mean of unit i at a total, within its budget
pub record IsJointOf {B : ℕ} (plan : Plan) (i at : ℕ) (mean : Iv B) : Type 0 where
  pub holds : Declares plan (Joint i at) (mean.lo over 2 ^ B) (mean.hi over 2 ^ B)
  pub narrow : mean.hi ≤ mean.lo + joint_budget (2 ^ B) plan i

-- ---- what is printed

-- the greatest level at which a quantile has a high end and a tail mean has numbers: the
-- probability that is sure to lie inside the grid of the total
abbrev pub reach_of : {B : ℕ} → List (Iv B) → Fraction
reach_of {B} g = low_cdf (2 ^ B) (low_at g) (length g - 1)

-- the row holds the ends lo and hi, in units of 1/S: the low end rounded down to d digits, the high
-- end up
pub record Prints (S lo hi d : ℕ) (row : Row) : Type 0 where
  pub is_low : row.low ≡ Number (lo * 10 ^ d / S)
  pub is_high : row.high ≡ Number (div_ceil (hi * 10 ^ d) S)
  pub ordered : lo ≤ hi
