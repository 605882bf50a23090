use Rattle.dl_convolution.proofs.Common.{arith}
use Rattle.dl_convolution.proofs.Filled.{mapped_more}
use Rattle.dl_convolution.proofs.grids.round_up.Goals as goal

pub loop-s-preserved : goal.loop-s-preserved
loop-s-preserved c =
    mapped_more _ _ _ _ _ (omega arith) (cc (c.loop-s.invariant.rest c.loop-s.s (omega arith))) c.loop-s.invariant
