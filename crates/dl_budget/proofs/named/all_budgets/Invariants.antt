-- The budgets of the units so far.
use Rattle.dl_budget.proofs.Common.{ℕ, ◌≡◌, ◌^◌, ◌<◌, length, get_or, None, Some, IfSome, IsSome, Any, IsBudgetOf}
use Rattle.dl_budget.proofs.named.all_budgets.Given as goal

abbrev pub invariant-loop-i : goal.invariant-loop-i
invariant-loop-i g l = record {
  as_many : length l.of_units.items ≡ l.i;
  each : (k : ℕ) → k < l.i → IfSome (get_or l.of_units.items k None) (IsBudgetOf (2 ^ g.row.B) l.plan k)
      × (Any (λ unit. unit ≡ Some k) l.named → IsSome (get_or l.of_units.items k None));
}
