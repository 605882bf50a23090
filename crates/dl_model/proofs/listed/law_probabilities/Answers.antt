use Rattle.dl_model.proofs.WeightLaws.{probabilities_all, probabilities_le, probability-past}
use Rattle.dl_model.proofs.listed.law_probabilities.Goals as goal

pub returns : goal.returns
returns c = record { all = probabilities_all; before = probabilities_le; past = probability-past }
