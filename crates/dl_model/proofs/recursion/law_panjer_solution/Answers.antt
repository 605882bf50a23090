use Rattle.dl_model.proofs.Panjer.{recursion_there}
use Rattle.dl_model.proofs.recursion.law_panjer_solution.Goals as goal

pub returns : goal.returns
returns c f w a b z P = recursion_there f w a b z P
