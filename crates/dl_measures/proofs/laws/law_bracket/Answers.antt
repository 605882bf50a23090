use Rattle.dl_measures.proofs.FoundBrackets.{bracket}
use Rattle.dl_measures.proofs.laws.law_bracket.Goals as goal

pub returns : goal.returns
returns c = bracket
