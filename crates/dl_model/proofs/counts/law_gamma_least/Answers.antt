use Rattle.dl_model.proofs.Common.{pos_of_inverse}
use Rattle.dl_model.proofs.Gamma.{gamma_least}
use Rattle.dl_model.proofs.counts.law_gamma_least.Goals as goal

pub returns : goal.returns
returns c x d L s one e = gamma_least x d one L (pos_of_inverse L d e) e s
