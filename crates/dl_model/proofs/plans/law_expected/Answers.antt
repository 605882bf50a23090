use Rattle.dl_model.proofs.PlanMeans.{count_mean}
use Rattle.dl_model.proofs.plans.law_expected.Goals as goal

pub returns : goal.returns
returns c = count_mean
