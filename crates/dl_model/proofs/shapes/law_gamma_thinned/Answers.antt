use Rattle.dl_model.proofs.GammaThin.{thin_gamma}
use Rattle.dl_model.proofs.shapes.law_gamma_thinned.Goals as goal

pub returns : goal.returns
returns c r v p f g rp h y = thin_gamma r v f p g rp h y
