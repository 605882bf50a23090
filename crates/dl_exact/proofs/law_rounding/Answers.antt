use Rattle.dl_exact.proofs.RoundingLaws.{floor_div, ceiling_div}
use Rattle.dl_exact.proofs.law_rounding.Goals as goal

pub returns-clause-down : goal.returns-clause-down
returns-clause-down c = floor_div

pub returns-clause-up : goal.returns-clause-up
returns-clause-up c = ceiling_div
