-- The sum is that of the items read so far.
use Rattle.dl_plan.proofs.Common.{◌≡◌, take, weight_sum}
use Rattle.dl_plan.proofs.totals.total_weight.Given as goal

abbrev pub invariant-items : goal.invariant-items
invariant-items l = l.total ≡ weight_sum (take l.item-index l.items)
