use Rattle.dl_model.proofs.FamilyLaws.{encloses_product}
use Rattle.dl_model.proofs.families.law_convolve.Goals as goal

pub returns : goal.returns
returns c S K lo hi lo' hi' low high F G pos p q e e' = encloses_product S K lo hi lo' hi' F G pos p q e e' low high
