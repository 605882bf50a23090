use Rattle.dl_model.proofs.TotalMeans.{mean_of_total}
use Rattle.dl_model.proofs.totals.law_mean.Goals as goal

pub returns : goal.returns
returns c = mean_of_total
