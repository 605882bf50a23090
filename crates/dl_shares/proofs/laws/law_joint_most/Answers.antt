use Rattle.dl_shares.proofs.OneClaim.{outcome_most}
use Rattle.dl_shares.proofs.JointMost.{losses_within}
use Rattle.dl_shares.proofs.laws.law_joint_most.Goals as goal

pub returns : goal.returns
returns c = record {
  most = outcome_most;
  below = λ us i x l h S declared. (losses_within us declared).1 i x l h S;
}
