use Rattle.dl_model.proofs.Declared.{scaled}
use Rattle.dl_model.proofs.values.law_factor.Goals as goal

pub returns : goal.returns
returns c = scaled
