-- By the laws of divisors.
use Rattle.dl_exact.proofs.Multiples.{lcm_is, lcm_one}
use Rattle.dl_frac.proofs.laws.law_lcm.Goals as goal

pub returns : goal.returns
returns c = record { is = lcm_is; one = lcm_one }
