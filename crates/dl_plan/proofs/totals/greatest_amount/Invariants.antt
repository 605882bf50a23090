use Rattle.dl_plan.proofs.Common.{◌≡◌, take, greatest}
use Rattle.dl_plan.proofs.totals.greatest_amount.Given as goal

abbrev pub invariant-loop-item : goal.invariant-loop-item
invariant-loop-item l = l.greatest ≡ greatest (take l.item-index l.items)
