-- The series of the exponential, and what it is that an interval encloses exp(-x).
use Rattle.std.specs.Prelude.{ℕ, ◌^◌}
use Rattle.dl_exact.specs.Prelude.{Fraction, whole, ◌over◌, ◌*ℚ◌, ◌/ℚ◌, ◌≤ℚ◌, ◌^ℚ◌, factorial, sum_to}
use Rattle.dl_iv.specs.declared.interval.Iv.{Iv}

-- x^n / n!
unfoldable pub exponential_term : Fraction → ℕ → Fraction
exponential_term x n = x ^ℚ n /ℚ whole (factorial n)

-- the sum of the terms from 0 to N: as N grows it nears exp(x)
abbrev pub exponential_sum : Fraction → ℕ → Fraction
exponential_sum x N = sum_to N (exponential_term x)

-- The interval encloses exp(-x): its low end is at most, and its high end at least, 1 over the
-- least upper bound of the sums.
pub record EnclosesExp {B : ℕ} (x : Fraction) (interval : Iv B) : Type 0 where
  pub low : (N : ℕ) → interval.lo over 2 ^ B *ℚ exponential_sum x N ≤ℚ whole 1
  pub high : (u : Fraction) → ((N : ℕ) → exponential_sum x N ≤ℚ u)
      → whole 1 ≤ℚ interval.hi over 2 ^ B *ℚ u
