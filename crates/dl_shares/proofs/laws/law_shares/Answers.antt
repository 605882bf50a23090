use Rattle.dl_shares.proofs.Common.{units_shares}
use Rattle.dl_shares.proofs.laws.law_shares.Goals as goal

pub returns : goal.returns
returns c = units_shares c.args.plan.now.common c.args.plan.now.units
