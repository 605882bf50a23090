use Rattle.dl_model.proofs.ChangedLoss.{changed_values, changed_mean_values, unit_changed_lows}
use Rattle.dl_model.proofs.changed_zero.law_changed_values.Goals as goal

pub returns : goal.returns
returns c = record {
  outcome = λ p l h nl nh y u d. changed_values p u d l h nl nh y;
  mean = λ p l h nl nh u d. changed_mean_values p u d l h nl nh;
  lows = λ p nl nh k u low within d. unit_changed_lows p u d nl nh k low within;
}
