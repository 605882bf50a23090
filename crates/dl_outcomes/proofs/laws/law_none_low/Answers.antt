use Rattle.dl_outcomes.proofs.Means.{none_low}
use Rattle.dl_outcomes.proofs.laws.law_none_low.Goals as goal

pub returns : goal.returns
returns c = none_low
