use Rattle.dl_model.proofs.Means.{mean_of_unit}
use Rattle.dl_model.proofs.units.law_unit_mean.Goals as goal

pub returns : goal.returns
returns c = mean_of_unit
