use Rattle.dl_claims.proofs.Common.{arith, Item, part_of, sum_by_more_le_part}
use Rattle.dl_claims.proofs.WeightLists.{part_le}
use Rattle.dl_claims.proofs.shares.weight_of.Goals as goal

pub overflow_add-weight : goal.overflow_add-weight
overflow_add-weight c =
    omega (
      arith,
      sum_by_more_le_part (part_of c.args.x) (λ (i : Item). i.weight) c.args.items.now c.loop-item.item-index
          record { amount = 0; weight = 0 }
          c.loop-item-test.true (part_le c.args.x),
    )
