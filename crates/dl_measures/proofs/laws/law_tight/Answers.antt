use Rattle.dl_measures.proofs.FoundBrackets.{tight}
use Rattle.dl_measures.proofs.laws.law_tight.Goals as goal

pub returns : goal.returns
returns c = tight
