-- An amount of at most 2^22 counts at most 2^22 times its weight.
use Rattle.dl_plan.proofs.Common.{◌*◌, get_or, arith, mul-le-mul_right, sum_by_more, Item}
use Rattle.dl_plan.proofs.totals.weighted_sum.Goals as goal

pub items-preserved : goal.items-preserved
items-preserved c =
    let d : Item = record { amount = 0; weight = 0 } in
    let term = mul-le-mul_right (get_or c.args.items.now c.items.item-index d).weight
    (c.requires.near c.items.item-index d c.items-test.true) in
    record {
      so_far = omega (
        arith,
        c.items.invariant.so_far,
        sum_by_more (λ (i : Item). i.amount * i.weight) c.args.items.now c.items.item-index d c.items-test.true,
      );
      small = omega (
        arith,
        term,
        c.items.invariant.small,
        sum_by_more (λ (i : Item). i.weight) c.args.items.now c.items.item-index d c.items-test.true,
      );
    }
