use Rattle.dl_shares.proofs.Common.{units_joint_means}
use Rattle.dl_shares.proofs.laws.law_joint_total.Goals as goal

pub returns : goal.returns
returns c = units_joint_means c.args.plan.now.common c.args.plan.now.units
