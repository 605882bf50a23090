-- The horizons of the units of a valid plan.
use Rattle.dl_budget.proofs.Common.{ℕ, ◌≡◌, ◌^◌, ◌≤◌, arith, refl, ap, sym, subst, ◌∙◌, pow-le-pow_right, horizon, IsValidUnit, claims_budget, le_trans, most_cells, most_horizon, most_plan_cells, List, All, Option, Some, None, IfSome, IsSome, MatchOption, UnitOfPlan, Plan, IsHorizon, IsHorizonOf, HorizonPasses, edge, IsAggregate, IsValid, cells_fit, horizon_fits, Sev, Clause, CedeLayer, same_horizon, horizon_is, horizon_edges}

clause_horizon : (cells : ℕ) (sev : Sev) (cede : Option Clause) → cells ≤ most_plan_cells
    → IfSome cede (IsAggregate cells sev)
    → (k : ℕ) × IsHorizonOf cede cells k × (k ≤ most_horizon cells)
clause_horizon cells sev None few valid = (cells, refl, cells_fit cells few)
clause_horizon cells sev (Some clause) few valid = valid.horizon

pub unit_horizon : (cells : ℕ) (u : UnitOfPlan) → cells ≤ most_plan_cells → IsValidUnit cells u
    → (k : ℕ) × IsHorizonOf u.cede cells k × (k ≤ most_horizon cells)
unit_horizon cells u few valid = clause_horizon cells u.sev u.cede few valid.clause

-- the horizon that is told of it
clause_told : (h cells : ℕ) (sev : Sev) (cede : Option Clause) → IfSome cede (IsAggregate h sev)
    → IsHorizonOf cede cells (horizon cede cells)
clause_told h cells sev None valid = horizon_is None cells tt
clause_told h cells sev (Some clause) valid = horizon_is (Some clause) cells valid.accepted

pub unit_told : (h cells : ℕ) (u : UnitOfPlan) → IsValidUnit h u → IsHorizonOf u.cede cells (horizon u.cede cells)
unit_told h cells u valid = clause_told h cells u.sev u.cede valid.clause

pub one_horizon : (h cells k : ℕ) (u : UnitOfPlan) → IsValidUnit h u → IsHorizonOf u.cede cells k
    → k ≡ horizon u.cede cells
one_horizon h cells k u valid there = same_horizon u.cede cells k (horizon u.cede cells) there
    (unit_told h cells u valid)

pub few_horizon : (cells : ℕ) (u : UnitOfPlan) → cells ≤ most_plan_cells → IsValidUnit cells u
    → horizon u.cede cells ≤ most_horizon cells
few_horizon cells u few valid =
    let there = unit_horizon cells u few valid in
    omega (arith, there.2, one_horizon cells cells there.0 u valid there.1)

pub few_cells : (plan : Plan) → IsValid plan → (1 ≤ plan.cells) × (plan.cells ≤ most_plan_cells)
few_cells plan valid =
    let most : 2 ^ valid.cells.0 ≤ 2 ^ 16 = pow-le-pow_right {n = 2}
    (omega arith) {i = valid.cells.0} {j = 16} valid.cells.2 in
    let least : 2 ^ 1 ≤ 2 ^ valid.cells.0 = pow-le-pow_right {n = 2}
    (omega arith) {i = 1} {j = valid.cells.0} valid.cells.1 in
    (omega (arith, least, valid.cells.3), omega (arith, most, valid.cells.3))

-- each layer ends within a horizon
pub edges_few : (clause : Clause) (cells k : ℕ) (layers : List CedeLayer) → layers ≡ clause.1 → IsHorizon clause cells k
    → k ≤ most_cells
    → All (λ l. edge l ≤ most_cells) layers
edges_few clause cells k layers same horizon few i l inside =
    let within = subst (All (λ l. edge l ≤ k)) (sym same) (horizon_edges clause cells k horizon) i l inside in
    omega (arith, within, few)

-- where there is a horizon that a plan may have, it is found
pub horizon_there : (cede : Option Clause) (cells : ℕ) (found : Option ℕ)
    → MatchOption found (HorizonPasses cede cells) (λ k. IsHorizonOf cede cells k × (k ≤ most_horizon cells))
    → (k : ℕ) × IsHorizonOf cede cells k × (k ≤ most_horizon cells) → IsSome found
horizon_there cede cells (Some k) told known = refl
horizon_there cede cells None told known = absurd
    (omega (arith, told.2, known.2, same_horizon cede cells told.0 known.0 told.1 known.1))

-- no horizon passes any grid
pub within_any : (cells k : ℕ) → k ≤ most_horizon cells → k ≤ most_cells
within_any cells k few = le_trans few (horizon_fits cells)

-- a budget on the horizon that was found
pub on_horizon : (S h cells : ℕ) (u : UnitOfPlan) (found b : ℕ) → IsValidUnit h u → IsHorizonOf u.cede cells found
    → b ≡ claims_budget S found u
    → b ≡ claims_budget S (horizon u.cede cells) u
on_horizon S h cells u found b valid there e = e ∙ ap (λ n. claims_budget S n u)
    (one_horizon h cells found u valid there)
