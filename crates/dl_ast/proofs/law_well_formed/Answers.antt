-- By the lemma on the whole program.
use Rattle.dl_ast.proofs.Formed.{program_formed}
use Rattle.dl_ast.proofs.law_well_formed.Goals as goal

pub returns : goal.returns
returns c = program_formed
