-- How large a plan is: how many units it has, of how many of them the probability of no claim is
-- changed, and how large their means are all together.
use Rattle.std.specs.Prelude.{ℕ, ◌≤◌, List, Option, None, Some, count_by, is_some, length, sum_by}
use Rattle.dl_limits.specs.Limits.{most_changed, most_growth, most_units}
use Rattle.dl_exact.specs.Prelude.{Fraction, whole, ◌*ℚ◌, up}
use Rattle.dl_plan.specs.declared.plan.Unit.{Unit as UnitOfPlan}
use Rattle.dl_plan.specs.Means.{declared_mean}

-- how many of the units have a changed probability of no claim
abbrev pub changed_units : List UnitOfPlan → ℕ
changed_units units = count_by (λ u. is_some u.zero) units

-- no more units than a plan may have, nor more whose probability of no claim is changed
pub record AreFew (units : List UnitOfPlan) : Type 0 where
  pub few : length units ≤ most_units
  pub changed : changed_units units ≤ most_changed

-- how many times as large a change of the probability of no claim can make a mean
abbrev pub growth : Option Fraction → ℕ
growth None = 1
growth (Some p) = most_growth

-- a number of buckets that the mean of a unit's outcomes does not pass: it can only be less after
-- an aggregate clause
abbrev pub whole_mean : UnitOfPlan → ℕ
whole_mean u = up (whole (growth u.zero) *ℚ declared_mean u)

-- those of all units
abbrev pub whole_means : List UnitOfPlan → ℕ
whole_means units = sum_by whole_mean units
