use Rattle.dl_measures.proofs.Widths.{spread, rests}
use Rattle.dl_measures.proofs.laws.law_widths.Goals as goal

pub returns-clause-spread : goal.returns-clause-spread
returns-clause-spread c = spread

pub returns-clause-layer : goal.returns-clause-layer
returns-clause-layer c scale limit attachment w lo hi h = rests scale w limit _ _ h
