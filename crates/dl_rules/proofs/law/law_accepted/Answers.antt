-- The plan is made unit by unit.
use Rattle.dl_rules.proofs.Accepted.{accepted}
use Rattle.dl_rules.proofs.law.law_accepted.Goals as goal

pub returns : goal.returns
returns c = accepted
