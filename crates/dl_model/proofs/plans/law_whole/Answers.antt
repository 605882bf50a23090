use Rattle.dl_model.proofs.Common.{whole, lt_gap}
use Rattle.dl_model.proofs.CommonPlans.{plan_distribution}
use Rattle.dl_model.proofs.plans.law_whole.Goals as goal

pub returns : goal.returns
returns c p below =
    let rest = lt_gap p (whole 1) below in
    (plan_distribution c.args.plan.now c.requires.valid).adds_up p rest.0 rest.2 rest.1
