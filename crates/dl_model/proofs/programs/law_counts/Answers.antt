use Rattle.dl_model.proofs.ListedLaws.{listed_severity}
use Rattle.dl_model.proofs.CountBounds.{finite_count, fixed_count, binomial_count, poisson_count, gamma_of_count}
use Rattle.dl_model.proofs.programs.law_counts.Goals as goal

pub returns : goal.returns
returns c = record {
  fixed = fixed_count;
  listed = λ counts pos. finite_count _ _ (listed_severity counts pos);
  binomial = binomial_count;
  poisson = poisson_count;
  gamma = gamma_of_count;
}
