use Rattle.dl_transform.proofs.Common.{arith}
use Rattle.dl_transform.proofs.Steps.{both_more}
use Rattle.dl_transform.proofs.passes.part_all.Goals as goal

pub loop-i-preserved : goal.loop-i-preserved
loop-i-preserved c =
    both_more _ _ _ _ _ _ _ _ _ _ c.loop-i.invariant (omega arith) (omega arith) c.part-a.ensures.first_small
    c.part-a.ensures.second_small c.part-a.ensures.first c.part-a.ensures.second
