-- A cut keeps the quotient, and the second number falls.
use Rattle.dl_frac.specs.Cuts.{IsCut}
use Rattle.dl_frac.proofs.divisors.without.Given as goal

abbrev pub decreases-cuts : goal.decreases-cuts
decreases-cuts g l = l.right

abbrev pub invariant-cuts : goal.invariant-cuts
invariant-cuts g l = IsCut l.fn.num l.fn.den l.left l.right
