use Rattle.dl_model.proofs.Declared.{holds_times}
use Rattle.dl_model.proofs.values.law_product.Goals as goal

pub returns : goal.returns
returns c = holds_times
