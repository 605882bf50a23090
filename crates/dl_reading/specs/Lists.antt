-- Lists of probabilities with their weights, and tests of fractions.
use Rattle.std.specs.Prelude.{ℕ, ◌*◌, ◌&&◌, Bool, not, ◌==◌, nat_le, nat_lt, if◌then◌else◌, List, map, length, replicate, Option, Some, None}
use Rattle.dl_limits.specs.Limits.{most_weights, admitted_bound}
use Rattle.dl_exact.specs.Fraction.{Fraction, ◌over◌}
use Rattle.dl_plan.specs.Fine.{common_denominator, numerator_over}
use Rattle.dl_severity.specs.Weighing.{sum_of}
use Rattle.dl_severity.specs.declared.weights.Weights.{Weights}
use Rattle.dl_reading.specs.declared.grid.ValueList.{ValueList}
use Rattle.dl_reading.specs.declared.grid.Shares.{Shares}

-- `n` values without a list of probabilities are equally likely
abbrev pub probs_among : ℕ → Option Shares → List Fraction
probs_among n None = replicate n (1 over n)
probs_among n (Some probs) = probs.values

abbrev pub probs_of : ValueList → Option Shares → List Fraction
probs_of values probs = probs_among (length values.values) probs

-- the common denominator is at most `most`
abbrev pub is_fine : (most : ℕ) → List Fraction → Bool
is_fine most xs = nat_le (common_denominator xs) most

abbrev pub is_one : Fraction → Bool
is_one x = x.num == x.den

-- a fine list that does not sum to 1
abbrev pub is_not_one : (most : ℕ) → List Fraction → Bool
is_not_one most xs = is_fine most xs && not (is_one (sum_of xs))

-- a fine list that sums to 1
abbrev pub are_fine : (most : ℕ) → List Fraction → Bool
are_fine most xs = is_fine most xs && is_one (sum_of xs)

-- the numerators of a list that sums to 1 over its common denominator, where that is at most 2^40
abbrev pub weights_over : List Fraction → Option Weights
weights_over xs = if are_fine most_weights xs
    then Some (record {
      weights = map (numerator_over (common_denominator xs)) xs;
      total = common_denominator xs;
    })
    else None

-- both parts are below 2^48
abbrev pub is_admitted : Fraction → Bool
is_admitted x = nat_lt x.num admitted_bound && nat_lt x.den admitted_bound

abbrev pub is_whole : Fraction → Bool
is_whole x = x.den == 1

abbrev pub is_zero : Fraction → Bool
is_zero x = x.num == 0

-- x is above y
abbrev pub is_above : Fraction → Fraction → Bool
is_above x y = nat_lt (y.num * x.den) (x.num * y.den)
