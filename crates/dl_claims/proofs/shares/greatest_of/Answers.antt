use Rattle.dl_claims.proofs.Common.{arith}
use Rattle.dl_claims.proofs.WeightLists.{greatest_more}
use Rattle.dl_claims.proofs.shares.greatest_of.Goals as goal

pub loop-item-preserved : goal.loop-item-preserved
loop-item-preserved c =
    omega (
      arith,
      greatest_more c.args.items.now c.loop-item.item-index record { amount = 0; weight = 0 }
          c.loop-item-test.true,
    )
