use Rattle.dl_transform.proofs.Common.{◌≡◌, ◌*◌, arith}
use Rattle.dl_transform.proofs.Residues.{same_trans}
use Rattle.dl_transform.proofs.combined.scaled.Goals as goal

pub returns-clause-same : goal.returns-clause-same
returns-clause-same c =
    let one : c.args.p ≡ 1 * c.args.p = omega arith in
    same_trans (c.lowered.ensures.same c.args.p 1 one) c.times.ensures.same
