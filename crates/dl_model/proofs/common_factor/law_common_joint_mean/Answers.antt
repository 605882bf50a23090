use Rattle.dl_model.proofs.SharedValues.{joint_raised}
use Rattle.dl_model.proofs.common_factor.law_common_joint_mean.Goals as goal

pub returns : goal.returns
returns c = joint_raised
