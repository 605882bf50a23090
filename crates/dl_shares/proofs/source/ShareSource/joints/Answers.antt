use Rattle.dl_shares.proofs.Common.{Joint, declared, quantity_rises}
use Rattle.dl_shares.proofs.JointMost.{plan_within}
use Rattle.dl_shares.proofs.source.ShareSource.joints.Goals as goal

pub returns-clause-holds : goal.returns-clause-holds
returns-clause-holds g c plan i valid gives = record {
  at = c.joint.ensures.holds _ _ (gives c.args.x c.requires.inside) ((plan_within plan valid).0 i c.args.x);
  up_to = c.joints_to.ensures.holds (declared plan) i gives (λ y. quantity_rises plan valid (Joint i y));
  at_narrow = c.joint.ensures.width;
  up_to_narrow = c.joints_to.ensures.width;
}
