use Rattle.dl_shares.proofs.Common.{◌<◌, arith, subst, One, Joint, GivesJoints, reach}
use Rattle.dl_shares.proofs.source.ShareSource.joints_to.Goals as goal

pub returns-in-Beside-clause-holds : goal.returns-in-Beside-clause-holds
returns-in-Beside-clause-holds g c declares i gives rise =
    let inside = subst (λ s. c.args.q < reach s) c.in-Beside.is c.requires.inside in
    let held = subst (λ s. GivesJoints s declares i) c.in-Beside.is gives in
    c.joint_sums.ensures.holds (λ x. declares (Joint i x)) (declares One) rise (λ x le. held x (omega (arith, inside)))

pub returns-in-OverClaims-clause-holds : goal.returns-in-OverClaims-clause-holds
returns-in-OverClaims-clause-holds g c declares i gives rise =
    let inside = subst (λ s. c.args.q < reach s) c.in-OverClaims.is c.requires.inside in
    let held = subst (λ s. GivesJoints s declares i) c.in-OverClaims.is gives in
    c.claims_sums.ensures.holds (λ x. declares (Joint i x)) (declares One) rise (λ x le. held x (omega (arith, inside)))
