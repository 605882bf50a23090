use Rattle.dl_transform.proofs.Common.{◌≡◌, ◌*◌, arith, refl, Same}
use Rattle.dl_transform.proofs.Residues.{same_plus, same_trans, same_of}
use Rattle.dl_transform.proofs.Quotients.{parted}
use Rattle.dl_transform.proofs.factors.part.Goals as goal

pub returns-clause-first : goal.returns-clause-first
returns-clause-first c =
    let a : Same c.args.p c.lowered_once-a.result c.args.u = c.lowered_once-a.ensures.same c.args.p 2 refl in
    let e : c.args.v * c.args.w ≡ c.args.w * c.args.v = omega arith in
    same_plus a (same_trans c.times-b.ensures.same (same_of c.args.p e))

pub returns-clause-second : goal.returns-clause-second
returns-clause-second c =
    let a : Same c.args.p c.lowered_once-a.result c.args.u = c.lowered_once-a.ensures.same c.args.p 2 refl in
    parted c.args.p c.args.u c.lowered_once-a.result c.args.v c.args.w c.times-b.result _
    (omega (arith, c.requires.factor.below)) (omega arith) (omega (arith, c.times-b.ensures.small)) a
    c.times-b.ensures.same
