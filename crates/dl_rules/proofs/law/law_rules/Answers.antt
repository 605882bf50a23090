-- The extended rules have the wider bounds.
use Rattle.dl_rules.proofs.Common.{standard_within, Extended, Standard}
use Rattle.dl_rules.proofs.BothRules.{still_accepted, same_plan}
use Rattle.dl_rules.proofs.law.law_rules.Goals as goal

pub returns-clause-accepted : goal.returns-clause-accepted
returns-clause-accepted c = λ program settings none. still_accepted Standard Extended standard_within settings program none

pub returns-clause-plan : goal.returns-clause-plan
returns-clause-plan c = λ program settings plan is. same_plan program settings Standard Extended plan is
