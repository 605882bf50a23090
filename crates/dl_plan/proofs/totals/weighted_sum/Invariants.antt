-- The sum over the items read so far.
use Rattle.dl_plan.proofs.Common.{◌≡◌, ◌≤◌, ◌*◌, ◌^◌, take, weight_sum, weighted_sum}
use Rattle.dl_plan.proofs.totals.weighted_sum.Given as goal

abbrev pub invariant-items : goal.invariant-items
invariant-items l = record {
  so_far : l.sum ≡ weighted_sum (take l.item-index l.items);
  small : l.sum ≤ 2 ^ 22 * weight_sum (take l.item-index l.items);
}
