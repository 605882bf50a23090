use Rattle.dl_model.proofs.PooledLoss.{as_one_loss, one_declared}
use Rattle.dl_model.proofs.common_factor.law_pooled_loss.Goals as goal

pub returns : goal.returns
returns c = record { same = as_one_loss; declared = one_declared }
