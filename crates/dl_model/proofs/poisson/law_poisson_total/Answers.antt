use Rattle.dl_model.proofs.PoissonTotals.{poisson_total, poisson_total_enclosed, poisson_among}
use Rattle.dl_model.proofs.poisson.law_poisson_total.Goals as goal

pub returns : goal.returns
returns c = record {
  same = poisson_total;
  encloses = λ units made h B grid. poisson_total_enclosed units made h grid;
  among = poisson_among;
}
