use Rattle.dl_model.proofs.Beginnings.{poisson_no_loss, gamma_no_loss}
use Rattle.dl_model.proofs.counts.law_no_loss.Goals as goal

pub returns : goal.returns
returns c = record { poisson = poisson_no_loss; gamma = gamma_no_loss }
