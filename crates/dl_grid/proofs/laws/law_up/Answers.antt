use Rattle.dl_grid.proofs.WidthLaws.{up_ceiling}
use Rattle.dl_grid.proofs.laws.law_up.Goals as goal

pub returns-clause-ceiling : goal.returns-clause-ceiling
returns-clause-ceiling c = up_ceiling
