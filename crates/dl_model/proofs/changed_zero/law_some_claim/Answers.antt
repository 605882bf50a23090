use Rattle.dl_model.proofs.SomeClaim.{fixed_some_claim, binomial_some_claim, poisson_some_claim, gamma_some_claim, gamma_some_claim_below}
use Rattle.dl_model.proofs.changed_zero.law_some_claim.Goals as goal

pub returns : goal.returns
returns c = record {
  fixed = fixed_some_claim;
  binomial = binomial_some_claim;
  poisson = poisson_some_claim;
  gamma = gamma_some_claim;
  gamma_below_one = gamma_some_claim_below;
}
