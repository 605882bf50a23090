use Rattle.dl_model.proofs.Common.{One, score, partial_sums}
use Rattle.dl_model.proofs.TotalLaws.{outcomes_rise, cdf_grows, one_quantile, quantile_inside}
use Rattle.dl_model.proofs.measures.law_units_quantile.Goals as goal

pub returns : goal.returns
returns c = record {
  inside = quantile_inside;
  one = λ us e p k q q' w b pos.
      one_quantile (partial_sums us) (cdf_grows us) (outcomes_rise us w (score One)) e k b pos p q q';
}
