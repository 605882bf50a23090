use Rattle.dl_model.proofs.PoissonWeights.{poisson_bound, poisson_bound_from}
use Rattle.dl_model.proofs.counts.law_poisson_bounded.Goals as goal

pub returns : goal.returns
returns c = record { there = λ v. (_, poisson_bound v); past = poisson_bound_from }
