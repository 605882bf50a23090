use Rattle.dl_shares.proofs.JointMost.{plan_within}
use Rattle.dl_shares.proofs.laws.law_plan_joint_most.Goals as goal

pub returns : goal.returns
returns c =
    let within = plan_within c.args.plan.now c.requires.valid in
    record { most = within.0; below = within.1 }
