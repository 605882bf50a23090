use Rattle.dl_outcomes.proofs.Means.{mean_low}
use Rattle.dl_outcomes.proofs.laws.law_low_mean.Goals as goal

pub returns : goal.returns
returns c = mean_low
