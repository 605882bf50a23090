-- The items read so far are divided, and the others as they were.
use Rattle.dl_plan.proofs.Common.{◌≡◌, ◌++◌, take, drop, map, divided_by}
use Rattle.dl_plan.proofs.lowest.divided.Given as goal

abbrev pub invariant-items : goal.invariant-items
invariant-items l = l.item-items ≡ map (divided_by l.fn.common) (take l.item-index l.initial.item-items)
    ++ drop l.item-index l.initial.item-items
