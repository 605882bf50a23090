use Rattle.dl_model.proofs.CountMeans.{finite_mean, fixed_mean, binomial_mean, poisson_mean, gamma_mean}
use Rattle.dl_model.proofs.counts.law_expected_count.Goals as goal

pub returns : goal.returns
returns c = record {
  finite = finite_mean;
  fixed = fixed_mean;
  binomial = binomial_mean;
  poisson = poisson_mean;
  gamma = gamma_mean;
}
