use Rattle.dl_model.proofs.ChangedZero.{changed_lows}
use Rattle.dl_model.proofs.changed_zero.law_changed_lows.Goals as goal

pub returns : goal.returns
returns c = changed_lows
