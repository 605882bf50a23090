-- The values of a list: a, a + s, a + 2s, and so on, as long as the value does not pass b.
use Rattle.std.specs.Prelude.{ℕ, ◌≡◌, ◌⊎◌, ◌+◌, ◌<◌, ◌≤◌, ◌/◌, ⊤, List, [], ◌∷◌, length, map, flat_map}
use Rattle.std.specs.List.{range_with_len}
use Rattle.dl_limits.specs.Limits.{most_range_parts, numeral_bound}
use Rattle.dl_exact.specs.Fraction.{Fraction, whole, ◌+ℚ◌, ◌-ℚ◌, ◌*ℚ◌, ◌/ℚ◌, ◌≤ℚ◌, ◌<ℚ◌}
use Rattle.dl_plan.specs.Fine.{common_denominator}
use Rattle.dl_severity.specs.declared.range.Range.{Range}
use Rattle.dl_severity.specs.declared.fault.ExpandFault.{ExpandFault}
use Rattle.dl_severity.specs.declared.fault.ExpandFault.TheVariants.{TooLong, OutOfMemory}

-- the greatest whole number that is not above x
abbrev pub floor_of : Fraction → ℕ
floor_of x = x.num / x.den

-- how many steps lead from the first value to the last
abbrev pub steps_in : Range → ℕ
steps_in r = floor_of ((r.to -ℚ r.from) /ℚ r.step)

-- number k of a range, from 0
abbrev pub value_at : Range → ℕ → Fraction
value_at r k = r.from +ℚ whole k *ℚ r.step

-- the numbers of a range, in order
abbrev pub range_values : Range → List Fraction
range_values r = map (value_at r) (range_with_len 0 (steps_in r + 1))

-- the values of a list of ranges, in order
abbrev pub list_values : List Range → List Fraction
list_values ranges = flat_map range_values ranges

-- the common denominator of the three numbers; it is at most 1,000,000
abbrev pub range_denominator : Range → ℕ
range_denominator r = common_denominator (r.from ∷ r.to ∷ r.step ∷ [])

-- the common denominator is at most 1,000,000
abbrev pub IsShared : Range → Type 0
IsShared r = range_denominator r ≤ most_range_parts

-- a step above 0 from the first value up to the last, which has at most 11 digits in its first
-- part; one number, or numbers with a small common denominator
pub record IsRange (r : Range) : Type 0 where
  pub rising : r.from ≤ℚ r.to
  pub step : whole 0 <ℚ r.step
  pub digits : r.to.num < numeral_bound
  pub shared : (r.from ≡ r.to) ⊎ IsShared r

-- there are more than `most` values
abbrev pub RefusesRanges : (most : ℕ) → List Range → ExpandFault → Type 0
RefusesRanges most ranges TooLong = most < length (list_values ranges)
RefusesRanges most ranges OutOfMemory = ⊤

-- with the values of the range there are more than `most`, of which there are some already
abbrev pub PassesRoom : (most already : ℕ) → Range → ExpandFault → Type 0
PassesRoom most already r TooLong = most < already + length (range_values r)
PassesRoom most already r OutOfMemory = ⊤
