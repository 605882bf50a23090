-- A fixed count that is there decides.
use Rattle.dl_rules.proofs.Common.{rules, count_not_whole}
use Rattle.dl_rules.proofs.exposures.fixed_not_whole.Goals as goal

pub returns-in-Some : goal.returns-in-Some
unfolding count_not_whole
returns-in-Some c = search rules
