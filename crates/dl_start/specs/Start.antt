-- The probability of no claim, from which the recursion begins.
use Rattle.std.specs.Prelude.{ℕ, ◌+◌, ◌-◌, ◌*◌, ◌^◌, ◌≤◌}
use Rattle.dl_limits.specs.Limits.{most_start}
use Rattle.dl_exact.specs.Prelude.{Fraction, whole, ◌over◌, sum_to}
use Rattle.dl_model.specs.Series.{Holds}
use Rattle.dl_start.specs.declared.scaled.Scaled.{Scaled}

-- the probability of no claim, which is 1 over the sum of the count's weights w, is from low to
-- high in units of 1 / 2^exponent
abbrev pub HoldsNoClaim : (ℕ → Fraction) → Scaled → Type 0
HoldsNoClaim w x =
    Holds (λ N. whole 1) (λ N. sum_to N w) (x.low over 2 ^ x.exponent) (x.high over 2 ^ x.exponent)

-- ---- how close together the ends lie

-- the mean of a gamma count over its shape, up to which its probability of no claim is known to lie
-- between ends close together
abbrev pub most_claims_a_shape : ℕ
most_claims_a_shape = 65536

-- the ends have 62 bits and are next to each other
pub record IsExact (x : Scaled) : Type 0 where
  pub bits : most_start ≤ 2 * x.low
  pub near : x.high ≤ x.low + 1

-- the high end has 61 bits, and is at most r / 2^64 times the low end
pub record IsWithin (r : ℕ) (x : Scaled) : Type 0 where
  pub bits : most_start ≤ 4 * x.high
  pub ratio : x.high * 2 ^ 64 ≤ x.low * r

-- ends within s / 2^64 of each other stand for the root of a product, rounded outward, of ends
-- within r / 2^64 of each other and of ends next to each other: `middle` is at least the root of
-- the ratios' product, and what it is below s is enough for the rounding
pub record IsRootRatio (r s : ℕ) : Type 0 where
  pub middle : ℕ
  pub small : middle ≤ 2 ^ 64 * 1024
  pub square : r * (2 ^ 64 + 4) ≤ middle * middle
  pub rounded : 16 * ((middle + 2 ^ 64) * middle) ≤ 2 ^ 128 * (s - middle)
