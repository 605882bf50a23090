use Rattle.dl_model.proofs.SomeClaim.{claims_count}
use Rattle.dl_model.proofs.changed_zero.law_without_none.Goals as goal

pub returns : goal.returns
returns c = claims_count
