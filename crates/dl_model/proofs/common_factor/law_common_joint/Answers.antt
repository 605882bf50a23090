use Rattle.dl_model.proofs.SharedJoint.{joint_none, joint_next}
use Rattle.dl_model.proofs.common_factor.law_common_joint.Goals as goal

pub returns : goal.returns
returns c = record { none = joint_none; next = joint_next }
