-- Each unit has its part of the plan, which tells how large it is.
use Rattle.dl_rules.proofs.Accepted.{few_accepted}
use Rattle.dl_rules.proofs.law.law_total.Goals as goal

pub returns : goal.returns
returns c = few_accepted
