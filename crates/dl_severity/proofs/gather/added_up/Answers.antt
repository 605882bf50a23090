-- One item more is added to the last one, or comes after it.
use Rattle.dl_severity.proofs.Common.{◌∙◌, ap, arith, take_all, Item, weight_sum, weight_at, sum_by_more_le}
use Rattle.dl_severity.proofs.Gathering.{gathered-same, gathered-next, rising-with, positive-with, weight_sum-with, weight_at-with}
use Rattle.dl_severity.proofs.gather.added_up.Goals as goal
use Rattle.dl_severity.proofs.gather.added_up.Goals.{then-item-last, else-item-last+in_ok-push_weighed}

pub items-preserved : goal.items-preserved
items-preserved c = elim c.if-item-last.branch [
  | then-item-last w ↦
      rw (w.made-is, w.last-is)
      (gathered-same c.args.items.now c.items.item-index c.items.made.items c.items.last _ c.items-test.true
      c.items.invariant w.if-item-last.true)
  | else-item-last+in_ok-push_weighed w ↦
      rw (w.made-is, w.last-is, w.in_ok-push_weighed.ensures)
      (gathered-next c.args.items.now c.items.item-index c.items.made.items c.items.last _ c.items-test.true
      c.items.invariant c.requires.order w.if-item-last.false)
]

pub returns-clause-rising : goal.returns-clause-rising
returns-clause-rising c = rw c.in_ok-push_weighed-2.ensures
    (rising-with c.items.made.items c.items.last c.items.invariant.rising c.items.invariant.below)

pub returns-clause-positive : goal.returns-clause-positive
returns-clause-positive c =
    rw c.in_ok-push_weighed-2.ensures (positive-with c.items.made.items c.items.last c.items.invariant.positive)

pub overflow_add-last : goal.overflow_add-last
overflow_add-last c =
    let none : Item = record { amount = 0; weight = 0 } in
    omega (arith, sum_by_more_le (λ (j : Item). j.weight) c.args.items.now c.items.item-index none c.items-test.true)

pub returns-clause-sum : goal.returns-clause-sum
returns-clause-sum c = rw c.in_ok-push_weighed-2.ensures
    (weight_sum-with c.items.made.items c.items.last ∙ c.items.invariant.sum
    ∙ ap weight_sum (take_all c.items.item-index c.args.items.now c.items-test.false))

pub returns-clause-weights : goal.returns-clause-weights
returns-clause-weights c = λ x. rw c.in_ok-push_weighed-2.ensures
    (weight_at-with c.items.made.items c.items.last x ∙ c.items.invariant.weights x
    ∙ ap (λ items. weight_at items x) (take_all c.items.item-index c.args.items.now c.items-test.false))
