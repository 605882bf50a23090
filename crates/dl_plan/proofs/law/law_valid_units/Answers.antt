-- Each is a part of what a valid unit is.
use Rattle.dl_plan.proofs.Common.{ℕ, List, ◌≤◌, All, Option, Some, None, IfSome, Sev, Clause, IsClause, Item, most_amount, most_amount_at, amount_fits, IsAggregate}
use Rattle.std.proofs.Math.Nat.{le_trans}
use Rattle.dl_plan.proofs.law.law_valid_units.Goals as goal

clause_of : (cells : ℕ) (sev : Sev) (clause : Option Clause) → IfSome clause (IsAggregate cells sev)
    → IfSome clause IsClause
clause_of cells sev None is = is
clause_of cells sev (Some clause) is = is.accepted

near_in_any : (cells : ℕ) (items : List Item) → All (λ (i : Item). i.amount ≤ most_amount_at cells) items
    → All (λ (i : Item). i.amount ≤ most_amount) items
near_in_any cells items near k d h = le_trans (near k d h) (amount_fits cells)

pub returns : goal.returns
returns c = record {
  counts = λ plan valid k d h. ((valid.units k d h).count, (valid.units k d h).expected);
  amounts = λ plan valid k d h. near_in_any plan.cells _ (valid.units k d h).amounts;
  thinned = λ plan valid k d h unbounded. ((valid.units k d h).thinned unbounded).0;
  clauses = λ plan valid k d h. clause_of _ _ _ (valid.units k d h).clause;
}
