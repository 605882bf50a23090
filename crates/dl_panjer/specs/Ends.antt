-- The two numbers between which exp(-x) is enclosed: the reciprocals of two partial sums of the
-- exponential's series, in whole units of 1 / 2^63, one rounded up and one rounded down.
use Rattle.std.specs.Prelude.{ℕ, zero, suc, ◌+◌, ◌*◌, ◌/◌, ◌^◌}
use Rattle.std.specs.Int.{div_ceil}
use Rattle.dl_limits.specs.Limits.{series_one}
use Rattle.dl_exact.specs.Prelude.{Fraction, count_below}

-- the term x^n / n! from the term before it, each rounded down
unfoldable pub low_term : Fraction → ℕ → ℕ
low_term x zero = series_one
low_term x (suc n) = low_term x n * x.num / (x.den * suc n)

-- the same, each rounded up
unfoldable pub high_term : Fraction → ℕ → ℕ
high_term x zero = series_one
high_term x (suc n) = div_ceil (high_term x n * x.num) (x.den * suc n)

-- the partial sum of the series, to the term 18, of terms rounded down
abbrev pub low_exponential : Fraction → ℕ
low_exponential x = count_below 19 (low_term x)

-- that of terms rounded up, and its last term once more, for all terms that follow
abbrev pub high_exponential : Fraction → ℕ
high_exponential x = count_below 19 (high_term x) + high_term x 18

-- exp(-x) in units of 1 / 2^B, from below
abbrev pub exp_low : ℕ → Fraction → ℕ
exp_low B x = 2 ^ B * series_one / high_exponential x

-- and from above
abbrev pub exp_high : ℕ → Fraction → ℕ
exp_high B x = div_ceil (2 ^ B * series_one) (low_exponential x)
