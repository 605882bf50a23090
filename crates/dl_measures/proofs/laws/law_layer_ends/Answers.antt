use Rattle.dl_measures.proofs.CellEnds.{layer_ends}
use Rattle.dl_measures.proofs.laws.law_layer_ends.Goals as goal

pub returns : goal.returns
returns c = layer_ends
