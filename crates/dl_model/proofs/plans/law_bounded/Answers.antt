use Rattle.dl_model.proofs.CommonPlans.{plan_distribution}
use Rattle.dl_model.proofs.plans.law_bounded.Goals as goal

pub returns : goal.returns
returns c = (plan_distribution c.args.plan.now c.requires.valid).bounded
