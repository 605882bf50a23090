-- Lists of fractions with a common denominator, and fractions of small parts.
use Rattle.std.specs.Prelude.{ℕ, ◌≡◌, ◌*◌, ◌/◌, ◌<◌, ◌≤◌, List, fold}
use Rattle.dl_limits.specs.Limits.{admitted_bound, most_parts, most_weights}
use Rattle.dl_exact.specs.Prelude.{Fraction, lcm}

-- the least common multiple of the denominators
abbrev pub common_denominator : List Fraction → ℕ
common_denominator xs = fold (λ m x. lcm m x.den) 1 xs

-- fine to 30 bits: their common denominator is at most 2^30
abbrev pub IsFineTo30Bits : List Fraction → Type 0
IsFineTo30Bits xs = common_denominator xs ≤ most_parts

-- fine to 40 bits: their common denominator is at most 2^40
abbrev pub IsFineTo40Bits : List Fraction → Type 0
IsFineTo40Bits xs = common_denominator xs ≤ most_weights

-- x as a number of parts of which c make 1: its numerator over c, a multiple of its denominator
abbrev pub numerator_over : (c : ℕ) → Fraction → ℕ
numerator_over c x = x.num * (c / x.den)

-- both parts are below 2^48
pub record HasPartsOf48Bits (x : Fraction) : Type 0 where
  pub num : x.num < admitted_bound
  pub den : x.den < admitted_bound

-- x is a whole number
abbrev pub IsWhole : Fraction → Type 0
IsWhole x = x.den ≡ 1
