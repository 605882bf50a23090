use Rattle.dl_transform.proofs.Common.{arith}
use Rattle.dl_transform.proofs.Steps.{both_more}
use Rattle.dl_transform.proofs.passes.join_all.Goals as goal

pub loop-i-preserved : goal.loop-i-preserved
loop-i-preserved c =
    both_more _ _ _ _ _ _ _ _ _ _ c.loop-i.invariant (omega arith) (omega arith) c.join-a.ensures.first_small
    c.join-a.ensures.second_small c.join-a.ensures.first c.join-a.ensures.second
