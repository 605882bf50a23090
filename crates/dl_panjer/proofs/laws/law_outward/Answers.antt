use Rattle.dl_panjer.proofs.Base.{low_below, high_above}
use Rattle.dl_panjer.proofs.laws.law_outward.Goals as goal

pub returns-clause-low : goal.returns-clause-low
returns-clause-low c = low_below

pub returns-clause-high : goal.returns-clause-high
returns-clause-high c = high_above
