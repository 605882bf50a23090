use Rattle.dl_model.proofs.Roots.{none_above, none_below}
use Rattle.dl_model.proofs.shapes.law_no_claim_below_one.Goals as goal

pub returns : goal.returns
returns c = record { least = none_above; most = none_below }
