use Rattle.dl_model.proofs.Settles.{poisson_settles}
use Rattle.dl_model.proofs.SettlesGamma.{gamma_settles}
use Rattle.dl_model.proofs.counts.law_settles.Goals as goal

pub returns : goal.returns
returns c = record { poisson = poisson_settles; gamma = λ r x d one pos. gamma_settles x d one pos r }
