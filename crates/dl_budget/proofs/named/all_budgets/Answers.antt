use Rattle.dl_budget.proofs.Common.{ℕ, ◌≡◌, ◌^◌, arith, ap, length, Option, None, Some, IfSome, IsSome, Any, UnitBudgets, IsBudgetOf, pushed_length, each_pushed}
use Rattle.dl_budget.proofs.named.all_budgets.Goals as goal

pub loop-i-preserved : goal.loop-i-preserved
loop-i-preserved g c =
    let i = c.loop-i.invariant in record {
      as_many = pushed_length _ _ _ _ i.as_many c.in_ok-push.ensures.items;
      each = each_pushed (λ (k : ℕ) (o : Option UnitBudgets). IfSome o (IsBudgetOf (2 ^ g.row.B) c.args.plan.now k)
          × (Any (λ unit. unit ≡ Some k) c.args.named.now → IsSome o)) _ _ _ _ None i.as_many i.each
          c.in_ok-push.ensures.items (c.budgets_where.ensures.are, c.budgets_where.ensures.there);
    }

pub returns-clause-are : goal.returns-clause-are
returns-clause-are g c = record {
  total = c.budgets_of-of_total.ensures;
  as_many = omega (arith, c.loop-i.invariant.as_many, ap length c.as_slice-i-end.ensures);
  each = λ i inside. (c.loop-i.invariant.each i (omega (arith, inside, ap length c.as_slice-i-end.ensures))).0;
}

pub returns-clause-there : goal.returns-clause-there
returns-clause-there g c i inside = (c.loop-i.invariant.each i (omega (arith, inside, ap length c.as_slice-i-end.ensures))).1
