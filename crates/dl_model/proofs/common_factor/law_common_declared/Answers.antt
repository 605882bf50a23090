use Rattle.dl_model.proofs.PooledLoss.{common_bounded, common_positive, common_whole, common_distribution}
use Rattle.dl_model.proofs.CommonPlans.{at_most_one}
use Rattle.dl_model.proofs.common_factor.law_common_declared.Goals as goal

pub returns : goal.returns
returns c = record {
  bounded = common_bounded;
  positive = common_positive;
  adds_up = common_whole;
  quantile = λ r above us some h M past. at_most_one _ (common_distribution r above us some h M past);
}
