-- When a fraction is below 1.
use Rattle.dl_exact.proofs.Common.{◌<◌, arith, sym, subst, Fraction, whole, ◌<ℚ◌}
use Rattle.dl_exact.proofs.Laws.{one_pos}
use Rattle.dl_exact.proofs.Over.{over_self, lt_over}
use Rattle.dl_exact.proofs.Parts.{whole_num, whole_den}

pub num_below : (p : Fraction) → p <ℚ whole 1 → p.num < p.den
num_below p below = omega (
  arith,
  lt_over p.num p.den 1 1 p.positive one_pos
      (subst (λ t. t <ℚ whole 1) (sym (over_self p)) below),
)

pub below_one : (p : Fraction) → p.num < p.den → p <ℚ whole 1
unfolding ◌<ℚ◌
below_one p h = rw (whole_num 1, whole_den 1) (omega (arith, h))
