use Rattle.dl_model.proofs.Declared.{holds_plus}
use Rattle.dl_model.proofs.values.law_sum.Goals as goal

pub returns : goal.returns
returns c = holds_plus
