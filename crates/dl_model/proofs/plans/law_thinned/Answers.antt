use Rattle.dl_model.proofs.PlanThin.{poisson_thinned, gamma_thinned, none_thinned, no_amount_thinned}
use Rattle.dl_model.proofs.plans.law_thinned.Goals as goal

pub returns : goal.returns
returns c = record {
  poisson = poisson_thinned;
  gamma = gamma_thinned;
  none = λ u count unbounded none. none_thinned u.freq u.sev count unbounded none;
  no_amount = no_amount_thinned;
}
