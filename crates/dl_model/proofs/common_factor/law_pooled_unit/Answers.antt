use Rattle.dl_model.proofs.Pooled.{pooled_is_severity, pooled_one}
use Rattle.dl_model.proofs.common_factor.law_pooled_unit.Goals as goal

pub returns : goal.returns
returns c = record { severity = pooled_is_severity; all = pooled_one }
