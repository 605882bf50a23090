use Rattle.dl_model.proofs.FiniteCounts.{finite_encloses}
use Rattle.dl_model.proofs.families.law_finite_count.Goals as goal

pub returns : goal.returns
returns c S K far lo hi w f one none = finite_encloses w f far one none S K lo hi
