use Rattle.dl_transform.proofs.Common.{arith, refl}
use Rattle.dl_transform.proofs.Steps.{one_more}
use Rattle.dl_transform.proofs.combined.add_lows.Goals as goal

pub loop-s-preserved : goal.loop-s-preserved
loop-s-preserved c =
    let s = c.loop-s.s in
    one_more _ _ _ _ _ _ c.loop-s.invariant (omega arith)
    (omega (arith, c.loop-s.invariant.rest s (omega arith), c.requires.low s (omega arith), c.requires.mixed s (omega arith)))
    refl
