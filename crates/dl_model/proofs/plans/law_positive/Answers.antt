use Rattle.dl_model.proofs.CommonPlans.{plan_distribution}
use Rattle.dl_model.proofs.plans.law_positive.Goals as goal

pub returns : goal.returns
returns c = (plan_distribution c.args.plan.now c.requires.valid).positive
