use Rattle.dl_recursion.proofs.Common.{◌≡◌, ℕ, ◌+◌, ◌^◌, ◌<◌, ◌≤◌, take, sum_by, Part, run_parts, all_parts, ArePositiveAmounts}
use Rattle.dl_recursion.proofs.Units.{times_item}
use Rattle.dl_recursion.proofs.parts.amounts_of.Given as goal

abbrev pub invariant-items : goal.invariant-items
invariant-items l = record {
  sound : ArePositiveAmounts l.amounts;
  amount : 0 < l.run.amount;
  end : l.run.amount + l.run.count ≤ 2 ^ 32;
  parts : (f : Part → ℕ)
      → sum_by f (all_parts l.amounts) + sum_by f (run_parts l.run) ≡ sum_by (λ item. f (times_item l.step l.factor item))
      (take l.item-index l.items);
}
