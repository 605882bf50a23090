use Rattle.dl_model.proofs.Alike.{cancel_value}
use Rattle.dl_model.proofs.counts.law_common_factor.Goals as goal

pub returns : goal.returns
returns c E Q R e k r b p q r' = cancel_value E r e k b p Q R q r'
