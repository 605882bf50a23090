use Rattle.dl_transform.proofs.Common.{arith, refl}
use Rattle.dl_transform.proofs.Residues.{same_times, same_trans}
use Rattle.dl_transform.proofs.Steps.{one_more}
use Rattle.dl_transform.proofs.passes.square_all.Goals as goal

pub loop-i-preserved : goal.loop-i-preserved
loop-i-preserved c =
    one_more _ _ _ _ _ _ c.loop-i.invariant (omega arith) c.reduced.ensures.small
    (same_trans c.reduced.ensures.same (same_times (c.lowered-y.ensures.same c.args.p 2 refl)
    (c.lowered-y.ensures.same c.args.p 2 refl)))
