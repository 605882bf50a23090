use Rattle.std.proofs.Math.Nat.{lt_of_le_of_lt}
use Rattle.std.proofs.lemmas.List.Sums.{get_or-le-sum_by}
use Rattle.dl_recursion.proofs.Common.{◌*◌, get_or, arith, mul-le-mul_left, refl, sym, ◌∙◌, sum_by, all_parts, Item, take_all}
use Rattle.dl_recursion.proofs.Units.{some_steps, times_sum, times_each, item_joined, item_begun}
use Rattle.dl_recursion.proofs.parts.amounts_of.Goals as goal
use Rattle.dl_recursion.proofs.parts.amounts_of.Goals.{then-next-run+then-next-run-2, else-next-run+in_ok-add}

pub alone-next-requires-clause-room : goal.alone-next-requires-clause-room
alone-next-requires-clause-room c =
    lt_of_le_of_lt (mul-le-mul_left c.args.factor
    (get_or-le-sum_by (λ (item : Item). item.weight) c.args.items.now c.items.item-index _ c.items-test.true)) c.requires.room

pub items-preserved : goal.items-preserved
items-preserved c =
    let i = c.items.invariant in
    let n = c.items.item-index in
    let xs = c.args.items.now in
    let g = c.args.step in
    let k = c.args.factor in
    let d : Item = record { amount = 0; weight = 0 } in
    let next = c.alone-next.result in
    let e = c.alone-next.ensures in
    elim c.if-next-run.branch [
      | then-next-run+then-next-run-2 w ↦
          rw (w.amounts-is, w.run-is) (record {
            sound = i.sound;
            amount = i.amount;
            end = omega (arith, w.if-next-run.true, e.end);
            parts = λ f.
                item_joined f g k xs n d c.items-test.true c.items.run.amount c.items.run.count c.items.run.weight
                (sum_by f (all_parts c.items.amounts)) (sym e.amount ∙ w.if-next-run.true)
                (sym e.weight ∙ w.if-next-run-2.true) (i.parts f);
          })
      | else-next-run+in_ok-add w ↦
          rw (w.amounts-is, w.run-is) (record {
            sound = w.in_ok-add.ensures.sound;
            amount = rw e.amount (some_steps g _ (c.requires.whole n d c.items-test.true)
                (c.requires.no_zero n d c.items-test.true));
            end = omega (arith, e.end, e.count);
            parts = λ f.
                rw (e.amount, e.count, e.weight) (item_begun f g k xs n d c.items-test.true (k * (get_or xs n d).weight)
                (sum_by f (all_parts w.add.new.amounts)) refl (w.in_ok-add.ensures.parts f ∙ i.parts f));
          })
    ]

-- the loop came to the end of the items
pub returns-clause-sum : goal.returns-clause-sum
returns-clause-sum c =
    rw (c.in_ok-add-2.ensures.parts, c.items.invariant.parts, take_all _ _ c.items-test.false)
    (times_sum c.args.factor c.args.items.now)

pub returns-clause-each : goal.returns-clause-each
returns-clause-each c j =
    rw (c.in_ok-add-2.ensures.parts, c.items.invariant.parts, take_all _ _ c.items-test.false)
    (times_each c.args.step c.args.factor j c.args.items.now c.requires.apart c.requires.whole)
