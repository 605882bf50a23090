use Rattle.dl_model.proofs.Roots.{root_least, root_most}
use Rattle.dl_model.proofs.shapes.law_roots.Goals as goal

pub returns : goal.returns
returns c = record { least = root_least; most = root_most }
