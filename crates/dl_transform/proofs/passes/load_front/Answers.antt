use Rattle.dl_transform.proofs.Common.{◌*◌, arith, refl}
use Rattle.dl_transform.proofs.Steps.{one_more}
use Rattle.dl_transform.proofs.passes.load_front.Goals as goal

pub loop-i-preserved : goal.loop-i-preserved
loop-i-preserved c =
    one_more _ _ _ _ _ _ c.loop-i.invariant (omega arith) (c.lowered.ensures.within (4 * c.args.p) (omega arith) (omega arith))
    (c.lowered.ensures.same c.args.p 2 refl)
