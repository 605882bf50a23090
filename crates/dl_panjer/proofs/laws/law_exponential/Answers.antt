use Rattle.dl_panjer.proofs.Starts.{exp_holds, holds_exp, sums_are}
use Rattle.dl_panjer.proofs.laws.law_exponential.Goals as goal

pub returns-clause-series : goal.returns-clause-series
returns-clause-series c B v interval = (exp_holds v interval, holds_exp v interval)

pub returns-clause-weights : goal.returns-clause-weights
returns-clause-weights c v N = sums_are v N
