use Rattle.dl_budget.proofs.HalvingLaws.{halvings_least}
use Rattle.dl_budget.proofs.laws.law_halvings.Goals as goal

pub returns : goal.returns
returns c = halvings_least
