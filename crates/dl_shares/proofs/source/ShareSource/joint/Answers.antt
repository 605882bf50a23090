use Rattle.dl_shares.proofs.Common.{◌^◌, pow_pos, subst, Holds, exact_low, exact_high}
use Rattle.dl_shares.proofs.JointSums.{outward_holds}
use Rattle.dl_shares.proofs.source.ShareSource.joint.Goals as goal

pub returns-in-Beside-clause-holds : goal.returns-in-Beside-clause-holds
returns-in-Beside-clause-holds g c Q R exact most =
    let held = subst (λ s. Holds Q R (exact_low s c.args.x) (exact_high s c.args.x)) c.in-Beside.is exact in
    rw (c.joint_mean.ensures.low, c.joint_mean.ensures.high)
    (outward_holds Q R (2 ^ g.row.B) _ _ (pow_pos g.row.B) held)

pub returns-in-OverClaims-clause-holds : goal.returns-in-OverClaims-clause-holds
returns-in-OverClaims-clause-holds g c Q R exact most = c.claims_joint.ensures.holds Q R
    (subst (λ s. Holds Q R (exact_low s c.args.x) (exact_high s c.args.x)) c.in-OverClaims.is exact) most

pub returns-in-Beside-clause-low : goal.returns-in-Beside-clause-low
returns-in-Beside-clause-low g c = rw c.in-Beside.is c.joint_mean.ensures.low

pub returns-in-Beside-clause-high : goal.returns-in-Beside-clause-high
returns-in-Beside-clause-high g c = rw c.in-Beside.is c.joint_mean.ensures.high

pub returns-in-Beside-clause-width : goal.returns-in-Beside-clause-width
returns-in-Beside-clause-width g c = rw c.in-Beside.is c.joint_mean.ensures.width

pub returns-in-Beside-clause-small : goal.returns-in-Beside-clause-small
returns-in-Beside-clause-small g c = c.joint_mean.ensures.small

pub returns-in-Beside-clause-divisible : goal.returns-in-Beside-clause-divisible
returns-in-Beside-clause-divisible g c = c.joint_mean.ensures.divisible

pub returns-in-OverClaims-clause-low : goal.returns-in-OverClaims-clause-low
returns-in-OverClaims-clause-low g c = rw c.in-OverClaims.is c.claims_joint.ensures.low

pub returns-in-OverClaims-clause-high : goal.returns-in-OverClaims-clause-high
returns-in-OverClaims-clause-high g c = rw c.in-OverClaims.is c.claims_joint.ensures.high

pub returns-in-OverClaims-clause-width : goal.returns-in-OverClaims-clause-width
returns-in-OverClaims-clause-width g c = rw c.in-OverClaims.is c.claims_joint.ensures.width
