use Rattle.dl_model.proofs.Declared.{holds_wider}
use Rattle.dl_model.proofs.values.law_wider.Goals as goal

pub returns : goal.returns
returns c = holds_wider
