use Rattle.dl_model.proofs.GammaThin.{gamma_shares}
use Rattle.dl_model.proofs.counts.law_gamma_shares.Goals as goal

pub returns : goal.returns
returns c q u v p f g h e = gamma_shares q u v f p g h e
