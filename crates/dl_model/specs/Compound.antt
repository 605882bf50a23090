-- Compound sums: a random number of claims of random amounts (Klugman, Panjer and Willmot, Loss
-- Models, "Aggregate loss models").
use Rattle.std.specs.Prelude.{ℕ, zero, suc, ◌+◌}
use Rattle.dl_exact.specs.Prelude.{Fraction, whole, ◌*ℚ◌, sum_to, sum_pairs}

-- the convolution of f and g, the sum of f i * g j over all i + j = s: the probability that two
-- independent amounts add up to s
abbrev pub convolve : (ℕ → Fraction) → (ℕ → Fraction) → ℕ → Fraction
convolve f g s = sum_pairs s (λ i j. f i *ℚ g j)

-- the point mass at 0: what no claim comes to
unfoldable pub at_zero : ℕ → Fraction
at_zero zero = whole 1
at_zero (suc s) = whole 0

-- the n-fold convolution of f: the probability that n claims add up to s, where f j is that of the
-- amount j
unfoldable pub power : (ℕ → Fraction) → ℕ → ℕ → Fraction
power f zero = at_zero
power f (suc n) = convolve f (power f n)

-- the compound sum, level by level: the part of the sum s that comes from at most N claims, where w
-- n is the weight of n claims
abbrev pub cell : (ℕ → Fraction) → (ℕ → Fraction) → ℕ → ℕ → Fraction
cell w f s N = sum_to N (λ n. w n *ℚ power f n s)

-- the same of the counts from k to k + N, the first k claims of each left out: Horner's rule goes
-- from the greatest count down to k = 0
abbrev pub cell_from : (ℕ → Fraction) → (ℕ → Fraction) → ℕ → ℕ → ℕ → Fraction
cell_from w f k s N = sum_to N (λ n. w (k + n) *ℚ power f n s)
