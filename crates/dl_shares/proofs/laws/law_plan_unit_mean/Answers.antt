use Rattle.dl_shares.proofs.UnitMeans.{plan_mean_beside}
use Rattle.dl_shares.proofs.laws.law_plan_unit_mean.Goals as goal

pub returns : goal.returns
returns c = plan_mean_beside c.args.plan.now c.requires.valid
