use Rattle.dl_answers.proofs.Common.{◌^◌, pow_pos, arith, inl, inr, refl}
use Rattle.dl_answers.proofs.ShareLaws.{share_answer, rare_answer}
use Rattle.dl_answers.proofs.shares.share_row.Goals as goal

pub returns-in-Some-clause-share : goal.returns-in-Some-clause-share
returns-in-Some-clause-share g c =
    let is = c.requires.part in
    let part = c.args.part.now in
    let joint = c.joint_of-joint in inl (
    share_answer c.at.ensures.low c.at.ensures.high c.in-Some.ensures.holds c.in-Some.ensures.width
    (λ h most. c.law_plan_joint_most.ensures.below part.i c.args.at joint.result.lo h (2 ^ g.row.B) (pow_pos g.row.B)
    joint.ensures.joint.holds.0 most) (omega (arith, c.requires.inside, is.within)) is.total joint.ensures.joint
    c.ends_row.ensures.ends)

pub returns-in-None-clause-share : goal.returns-in-None-clause-share
returns-in-None-clause-share g c =
    let is = c.requires.part in inr (record {
      is_low = c.absent_row.ensures.low;
      is_high = c.absent_row.ensures.high;
      rare = rare_answer c.args.at c.at.ensures.low c.at.ensures.high (c.in-None.ensures.none.0 refl)
          (omega (arith, c.requires.inside, is.within)) is.total;
    })
