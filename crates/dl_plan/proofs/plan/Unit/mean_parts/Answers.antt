-- The product of a count and the mean of a severity.
use Rattle.dl_plan.proofs.Common.{mul-pos}
use Rattle.dl_plan.proofs.Means.{total_pos}
use Rattle.dl_plan.proofs.plan.Unit.mean_parts.Goals as goal

pub returns-clause-positive : goal.returns-clause-positive
returns-clause-positive c = mul-pos c.den.ensures.positive
    (total_pos c.args.self.now.sev.items c.args.self.now.sev.total c.args.self.now.sev.weighted)
