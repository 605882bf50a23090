use Rattle.dl_model.proofs.Itself.{itself_value}
use Rattle.dl_model.proofs.Beginnings.{fixed_claims, trials}
use Rattle.dl_model.proofs.counts.law_count_powers.Goals as goal

pub returns : goal.returns
returns c = record { any = λ w f n y. itself_value w f n y; fixed = fixed_claims; trials = trials }
