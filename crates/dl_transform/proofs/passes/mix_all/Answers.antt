use Rattle.dl_transform.proofs.Common.{arith}
use Rattle.dl_transform.proofs.Steps.{one_more}
use Rattle.dl_transform.proofs.passes.mix_all.Goals as goal

pub loop-i-preserved : goal.loop-i-preserved
loop-i-preserved c =
    one_more _ _ _ _ _ _ c.loop-i.invariant (omega arith) c.mixed.ensures.small
    c.mixed.ensures.same
