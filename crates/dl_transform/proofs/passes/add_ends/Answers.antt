use Rattle.dl_transform.proofs.Common.{arith, refl}
use Rattle.dl_transform.proofs.Residues.{same_plus, same_refl, same_times, same_trans}
use Rattle.dl_transform.proofs.Steps.{one_more}
use Rattle.dl_transform.proofs.passes.add_ends.Goals as goal

pub loop-i-preserved : goal.loop-i-preserved
loop-i-preserved c =
    let p = c.args.p in
    one_more _ _ _ _ _ _ c.loop-i.invariant (omega arith) (omega arith)
    (same_plus (same_trans (c.lowered.ensures.same p 2 refl) (same_times (same_refl p 2)
    (c.lowered-low.ensures.same p 2 refl))) (c.lowered-in-loop-i.ensures.same p 2 refl))
