-- A common divisor is not above both numbers.
use Rattle.dl_frac.proofs.Common.{ℕ, ◌^◌, ◌<◌, arith, inl, inr, gcd, gcd_is, gcd-zero}
use Rattle.std.proofs.Math.Nat.{eq-zero-or-pos}
use Rattle.std.proofs.lemmas.Nat.Gcd.{le_of_dvd}
use Rattle.dl_frac.proofs.divisors.small_divisor.Goals as goal

gcd_below : (a b m : ℕ) → a < m → b < m → gcd a b < m
gcd_below a b m p q = elim (eq-zero-or-pos b) [
  | inl none ↦ omega (arith, p, gcd-zero a b none)
  | inr pos ↦ omega (arith, q, le_of_dvd pos (gcd_is a b).1)
]

pub overflow_cast-result : goal.overflow_cast-result
overflow_cast-result c =
    omega (arith, c.divisor.ensures.value, gcd_below c.args.a c.args.b (2 ^ 32) (omega arith) (omega arith))
