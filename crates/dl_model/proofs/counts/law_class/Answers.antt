use Rattle.dl_model.proofs.Panjer.{poisson_class, gamma_class}
use Rattle.dl_model.proofs.counts.law_class.Goals as goal

pub returns : goal.returns
returns c = record { poisson = poisson_class; gamma = gamma_class }
