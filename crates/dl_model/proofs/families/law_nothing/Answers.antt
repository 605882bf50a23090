use Rattle.dl_model.proofs.FiniteCounts.{nothing_encloses}
use Rattle.dl_model.proofs.families.law_nothing.Goals as goal

pub returns : goal.returns
returns c = nothing_encloses
