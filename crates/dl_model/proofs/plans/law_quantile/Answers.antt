use Rattle.dl_model.proofs.CommonPlans.{plan_distribution, inside, at_most_one}
use Rattle.dl_model.proofs.plans.law_quantile.Goals as goal

pub returns : goal.returns
returns c =
    let d = plan_distribution c.args.plan.now c.requires.valid in
    record { one = at_most_one _ d; inside = inside _ d }
