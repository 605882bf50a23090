-- The divisor is that of the items read so far.
use Rattle.dl_plan.proofs.Common.{◌≡◌, take, common_weight}
use Rattle.dl_plan.proofs.lowest.divisor_of_weights.Given as goal

abbrev pub invariant-items : goal.invariant-items
invariant-items l = l.common ≡ common_weight (take l.item-index l.items)
