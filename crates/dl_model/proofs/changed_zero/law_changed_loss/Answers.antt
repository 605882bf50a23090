use Rattle.dl_model.proofs.ChangedLoss.{changed_declared, changed_mean}
use Rattle.dl_model.proofs.changed_zero.law_changed_loss.Goals as goal

pub returns : goal.returns
returns c = record { declared = λ p u within h. changed_declared p u h within; mean = changed_mean }
