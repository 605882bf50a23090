use Rattle.dl_model.proofs.FamilyLaws.{compound_proper, proper_product, itself_proper}
use Rattle.dl_model.proofs.families.law_proper.Goals as goal

pub returns : goal.returns
returns c = record { compound = compound_proper; product = proper_product; powers = λ F n p. itself_proper F p n }
