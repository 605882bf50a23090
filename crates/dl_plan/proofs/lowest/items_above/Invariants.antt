-- The items kept are those above the amount among the ones read so far.
use Rattle.dl_plan.proofs.Common.{◌≡◌, take}
use Rattle.std.specs.Prelude.{nat_lt, filter}
use Rattle.dl_plan.proofs.lowest.items_above.Given as goal

abbrev pub invariant-items : goal.invariant-items
invariant-items l = l.kept.items ≡ filter (λ item. nat_lt l.fn.attach item.amount) (take l.item-index l.items)
