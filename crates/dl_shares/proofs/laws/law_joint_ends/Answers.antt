use Rattle.dl_shares.proofs.BesideJoint.{joint_ends}
use Rattle.dl_shares.proofs.laws.law_joint_ends.Goals as goal

pub returns : goal.returns
returns c = joint_ends
