use Rattle.dl_plan.proofs.Common.{Item}
use Rattle.std.specs.Prelude.{nat_lt, filter}
use Rattle.dl_plan.proofs.Passed.{above_more, made_of_all, others_left}
use Rattle.dl_plan.proofs.lowest.items_above.Goals.{then-item-attach+in_ok-push, else-item-attach}
use Rattle.dl_plan.proofs.lowest.items_above.Goals as goal

pub returns : goal.returns
returns c =
    made_of_all (filter (λ (item : Item). nat_lt c.args.attach item.amount)) c.args.items.now _ c.items.item-index
    c.items-test.false c.items.invariant

pub items-preserved : goal.items-preserved
items-preserved c = elim c.if-item-attach.branch [
  | then-item-attach+in_ok-push w ↦ rw w.kept-is (above_more c.args.attach c.args.items.now c.items.kept.items _
      c.items.item-index _ c.items-test.true c.items.invariant w.if-item-attach.true w.in_ok-push.ensures.items)
  | else-item-attach w ↦ rw w.kept-is (others_left c.args.attach c.args.items.now c.items.kept.items c.items.kept.items
      c.items.item-index _ c.items-test.true c.items.invariant w.if-item-attach.false)
]
