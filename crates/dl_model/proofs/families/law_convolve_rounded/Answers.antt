use Rattle.dl_model.proofs.FamilyLaws.{encloses_rounded}
use Rattle.dl_model.proofs.families.law_convolve_rounded.Goals as goal

pub returns : goal.returns
returns c = encloses_rounded
