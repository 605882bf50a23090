-- A plan with its budgets, and what its rows and the joint means of its units come from.
use Rattle.std.specs.Prelude.{ℕ, ◌≡◌, ◌+◌, ◌<◌, ◌≤◌, ◌^◌, ⊤, Bool, IsTrue, Option, None, Some, IfSome, IsSome, List, [], length, get_or}
use Rattle.dl_iv.specs.declared.interval.Iv.{Iv}
use Rattle.dl_grid.specs.Cells.{spread}
use Rattle.dl_plan.specs.declared.plan.Plan.{Plan}
use Rattle.dl_plan.specs.Prelude.{IsIndependentAt}
use Rattle.dl_budget.specs.declared.once.UnitBudgets.{UnitBudgets}
use Rattle.dl_budget.specs.Once.{AreAllBudgets}
use Rattle.dl_budget.specs.Units.{total_budget}
use Rattle.dl_shares.specs.declared.drawn.Origin.{Origin}
use Rattle.dl_shares.specs.declared.drawn.Origin.TheVariants.{Nowhere, Beside, Claims}
use Rattle.dl_shares.specs.declared.drawn.Drawn.{Drawn}
use Rattle.dl_shares.specs.Drawn.{AreDrawnOf, IsClaimsGrid, IsTotalOf, AreOthersOf, Reaches}
use Rattle.dl_sources.specs.declared.budgeted.Budgeted.{Budgeted}
use Rattle.dl_sources.specs.declared.origins.Sources.{Sources}

-- a valid plan of independent units, at the scale of its cells, and the budgets of its rows
pub record IsBudgeted (B : ℕ) (of : Budgeted) : Type 0 where
  pub at : IsIndependentAt B of.plan.now
  pub budgets : AreAllBudgets (2 ^ B) of.plan.now of.budgets.now

-- the grid of the total, if it is no wider than the budget of the total
abbrev pub IsTotalIfNarrow : {B : ℕ} → Plan → List (Iv B) → Type 0
IsTotalIfNarrow {B} plan g = spread g ≤ total_budget (2 ^ B) plan → IsTotalOf plan g

-- a grid of all cells that the claims of unit i go over
pub record IsWholeClaimsGrid {B : ℕ} (plan : Plan) (i : ℕ) (g : List (Iv B)) : Type 0 where
  pub grid : IsClaimsGrid plan i g
  pub cells : length g ≡ plan.cells

-- the same of the grid with number k
pub record IsWholeNumber {B : ℕ} (plan : Plan) (grids : List (List (Iv B))) (i k : ℕ) : Type 0 where
  pub there : k < length grids
  pub whole : IsWholeClaimsGrid plan i (get_or grids k [])

-- What the joint means of unit i, of these budgets, come from, among these grids: nothing only
-- where there are no budgets, since no ask names the unit.
abbrev pub IsFoundOf : {B : ℕ} → Plan → Option UnitBudgets → List (List (Iv B)) → ℕ → Origin B
    → Type 0
IsFoundOf plan of grids i Nowhere = of ≡ None
IsFoundOf plan of grids i (Beside others) = AreOthersOf plan i others
IsFoundOf plan of grids i (Claims k) = IsWholeNumber plan grids i k

-- the sum of all others is there
abbrev pub IsBeside : {B : ℕ} → Origin B → Type 0
IsBeside (Beside others) = ⊤
IsBeside origin = ⊥

-- the grid of the total, and behind it at most one for each of the first i units
pub record AreGridsFor {B : ℕ} (plan : Plan) (i : ℕ) (grids : List (List (Iv B))) : Type 0 where
  pub some : 0 < length grids
  pub few : length grids ≤ i + 1
  pub total : IsTotalOf plan (get_or grids 0 [])

-- the grids stay at their places; more may follow
pub record StayAmong {B : ℕ} (grids more : List (List (Iv B))) : Type 0 where
  pub no_fewer : length grids ≤ length more
  pub same : (k : ℕ) → k < length grids → get_or more k [] ≡ get_or grids k []

-- the grid of the total, then those that claims go over, and what each unit's joint means come from
pub record AreSourcesOf {B : ℕ} (of : Budgeted) (made : Sources B) : Type 0 where
  pub some : 0 < length made.grids.items
  pub total : IsTotalOf of.plan.now (get_or made.grids.items 0 [])
  pub as_many : length made.origins.items ≡ length of.plan.now.units
  pub each : (i : ℕ) → i < length of.plan.now.units
      → IsFoundOf of.plan.now (get_or of.budgets.now.of_units.items i None) made.grids.items i
      (get_or made.origins.items i Nowhere)

-- the sum of all others is there for no other units than these sums
abbrev pub AreBesideOnly : {B : ℕ} → Sources B → List (Option (List (Iv B))) → Type 0
AreBesideOnly made others = (i : ℕ) → IsBeside (get_or made.origins.items i Nowhere)
    → IsSome (get_or others i None)

-- the joint means of no unit come from the sum of all others
abbrev pub NoneBeside : {B : ℕ} → Sources B → Type 0
NoneBeside made = (i : ℕ) → ¬ IsBeside (get_or made.origins.items i Nowhere)

-- for each unit, where it is there, the grid of the sum of all others
pub record AreOthers {B : ℕ} (plan : Plan) (others : List (Option (List (Iv B)))) : Type 0 where
  pub as_many : length others ≡ length plan.units
  pub each : (i : ℕ) → i < length plan.units → IfSome (get_or others i None) (AreOthersOf plan i)

-- it is there for each unit that has budgets
abbrev pub HaveOthers : {B : ℕ} → Budgeted → List (Option (List (Iv B))) → Type 0
HaveOthers of others = (i : ℕ) → i < length of.plan.now.units
    → IsSome (get_or of.budgets.now.of_units.items i None) → IsSome (get_or others i None)

-- joint means at all totals below n come from what is drawn, for each unit that has budgets
pub record ReachNamed {B : ℕ} (plan : Plan) (budgets : List (Option UnitBudgets)) (n : ℕ)
    (drawn : Drawn B) : Type 0 where
  pub each : (i : ℕ) → i < length plan.units → IsSome (get_or budgets i None) → Reaches drawn i n

-- the grids and means behind the rows, with joint means at all totals of the grid
pub record IsDrawnOf {B : ℕ} (of : Budgeted) (made : Drawn B) : Type 0 where
  pub drawn : AreDrawnOf of.plan.now made
  pub reached : ReachNamed of.plan.now of.budgets.now.of_units.items of.plan.now.cells made

-- under a common factor the claims of each unit that has budgets go over the second grid
abbrev pub factor_origin : {B : ℕ} → Option UnitBudgets → Origin B
factor_origin None = Nowhere
factor_origin (Some of) = Claims 1

-- the grid of the total; and behind it, where a unit is named, n cells over which the claims of
-- each unit go
pub record AreFactorGrids {B : ℕ} (plan : Plan) (named : Bool) (n : ℕ)
    (grids : List (List (Iv B))) : Type 0 where
  pub some : 0 < length grids
  pub total : IsTotalOf plan (get_or grids 0 [])
  pub there : IsTrue named → 1 < length grids
  pub each : IsTrue named → (i : ℕ) → i < length plan.units
      → IsClaimsGrid plan i (get_or grids 1 [])
  pub reach : IsTrue named → length (get_or grids 1 []) ≡ n
