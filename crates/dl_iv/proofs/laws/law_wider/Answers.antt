use Rattle.dl_iv.proofs.Enclosures.{lies_in_wider}
use Rattle.dl_iv.proofs.laws.law_wider.Goals as goal

pub returns : goal.returns
returns g c = record { holds = λ x p. lies_in_wider x _ _ c.requires.low c.requires.high p }
