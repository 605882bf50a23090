use Rattle.dl_model.proofs.Ends.{excess_ends}
use Rattle.dl_model.proofs.measures.law_excess_ends.Goals as goal

pub returns : goal.returns
returns c = excess_ends
