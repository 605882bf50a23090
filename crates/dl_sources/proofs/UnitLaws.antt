-- What is made of one unit.
use Rattle.dl_sources.proofs.Common.{ℕ, ◌≡◌, ◌*◌, ◌^◌, ◌≤◌, List, length, arith, ap, subst, Option, None, Some, Iv, spread, mapped, GridEncloses, aggregate_of, Clause, IsHorizonOf, horizon, IsValidUnit, claims_budget, after_clause, one_horizon, UnitOfPlan, IsClaimsSum, IsClauseGrid, horizon_one}
use Rattle.dl_sources.proofs.SumLaws.{plain_encloses}

pub horizon_some : (cede : Option Clause) (h k : ℕ) → 1 ≤ h → IsHorizonOf cede h k → 1 ≤ k
horizon_some None h k some horizon = omega (arith, some, horizon)
horizon_some (Some clause) h k some horizon = horizon_one clause h k horizon

module _ {B : ℕ} {cells : ℕ} {u : UnitOfPlan} (claims : List (Iv B)) (valid : IsValidUnit cells u)
    (sum : IsClaimsSum cells u claims) where
  budget_at : spread claims ≤ claims_budget (2 ^ B) (horizon u.cede cells) u
  budget_at = rw (one_horizon cells cells (length claims) u valid sum.horizon) at sum.narrow

  -- without a clause the outcomes are the sums of claims
  pub plain_grid : u.cede ≡ None → IsClauseGrid cells u claims
  plain_grid none = record {
    cells = subst (λ c. IsHorizonOf c cells (length claims)) none sum.horizon;
    encloses = plain_encloses claims valid none sum.encloses;
    narrow = omega (
      arith,
      budget_at,
      ap (λ c. after_clause c (claims_budget (2 ^ B) (horizon u.cede cells) u)) none,
    );
  }

  -- with a clause the spread is at most doubled
  pub ceded_grid : {clause : Clause} {g : List (Iv B)} → u.cede ≡ Some clause → length g ≡ cells
      → GridEncloses g (mapped (aggregate_of u)) → spread g ≤ 2 * spread claims → IsClauseGrid cells u g
  ceded_grid some same encloses twice = record {
    cells = same;
    encloses = encloses;
    narrow = omega (
      arith,
      budget_at,
      ap (λ c. after_clause c (claims_budget (2 ^ B) (horizon u.cede cells) u)) some,
    );
  }
