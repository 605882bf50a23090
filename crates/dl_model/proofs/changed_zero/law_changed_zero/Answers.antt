use Rattle.dl_model.proofs.ChangedZero.{changed_zero_holds}
use Rattle.dl_model.proofs.changed_zero.law_changed_zero.Goals as goal

pub returns : goal.returns
returns c = changed_zero_holds
