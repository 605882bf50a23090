use Rattle.dl_model.proofs.Roots.{none_least, none_most}
use Rattle.dl_model.proofs.shapes.law_no_claim_of_shapes.Goals as goal

pub returns : goal.returns
returns c = record { least = none_least; most = none_most }
