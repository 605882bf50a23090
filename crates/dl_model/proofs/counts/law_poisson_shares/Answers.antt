use Rattle.dl_model.proofs.PoissonTimes.{poisson_shares}
use Rattle.dl_model.proofs.counts.law_poisson_shares.Goals as goal

pub returns : goal.returns
returns c u v p k f g h e = poisson_shares u v k f p g h e
