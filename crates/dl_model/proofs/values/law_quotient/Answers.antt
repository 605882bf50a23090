use Rattle.dl_model.proofs.Declared.{quotient}
use Rattle.dl_model.proofs.values.law_quotient.Goals as goal

pub returns : goal.returns
returns c = quotient
