use Rattle.dl_measures.proofs.CellEnds.{cdf_ends}
use Rattle.dl_measures.proofs.laws.law_cdf_ends.Goals as goal

pub returns : goal.returns
returns c = cdf_ends
