-- A step keeps the divisors of the pair, and its second number falls.
use Rattle.dl_frac.proofs.Common.{◌≡◌, gcd}
use Rattle.dl_frac.proofs.divisors.divisor.Given as goal

abbrev pub decreases-steps : goal.decreases-steps
decreases-steps l = l.y

abbrev pub invariant-steps : goal.invariant-steps
invariant-steps l = gcd l.x l.y ≡ gcd l.fn.a l.fn.b
