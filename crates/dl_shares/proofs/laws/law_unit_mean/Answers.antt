use Rattle.dl_shares.proofs.UnitMeans.{mean_beside}
use Rattle.dl_shares.proofs.laws.law_unit_mean.Goals as goal

pub returns : goal.returns
returns c = mean_beside
