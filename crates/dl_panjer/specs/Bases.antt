-- The grids of Poisson and geometric counts: each cell past the first follows from the grid's own
-- earlier cells.
use Rattle.std.specs.Prelude.{ℕ, suc, Bool, true, false, ◌≡◌, ◌+◌, ◌/◌, ◌<◌, ◌≤◌, ◌^◌, List, length}
use Rattle.std.specs.Int.{div_ceil}
use Rattle.dl_exact.specs.Prelude.{Fraction, whole, ◌+ℚ◌, ◌*ℚ◌, ◌/ℚ◌, ◌≤ℚ◌, IsFloor}
use Rattle.dl_iv.specs.declared.interval.Iv.{Iv}
use Rattle.dl_grid.specs.Cells.{low_at, high_at}
use Rattle.dl_panjer.specs.Exponential.{EnclosesExp}
use Rattle.dl_panjer.specs.Ends.{exp_low, exp_high}
use Rattle.dl_model.specs.Recursion.{Recursion}
use Rattle.dl_plan.specs.declared.item.Item.{Item}
use Rattle.dl_plan.specs.declared.severity.Sev.{Sev}
use Rattle.dl_panjer.specs.Cells.{coefficient, next_sum}
use Rattle.dl_panjer.specs.Outward.{IsCeilingWithin}

-- cell 0 encloses exp(-v), the probability that there is no claim, between the reciprocals of two
-- partial sums of its series: it is at most 3 units wide, and its high end is at most 1
pub record StartsAtExp {B : ℕ} (v : Fraction) (grid : List (Iv B)) : Type 0 where
  pub first : Iv B
  pub low : low_at grid 0 ≡ first.lo
  pub high : high_at grid 0 ≡ first.hi
  pub low_end : low_at grid 0 ≡ exp_low B v
  pub high_end : high_at grid 0 ≡ exp_high B v
  pub encloses : EnclosesExp v first
  pub narrow : first.hi ≤ first.lo + 3
  pub small : first.hi ≤ 2 ^ B

-- Each cell but the first follows from the grid's own cells before it, by two roundings, the low
-- end down and the high end up: over the whole weight `total` of the items, and times `factor s`.
-- No high end is above 1. An amount counts by its weight, and where `by_amount` says so by itself
-- too.
pub record FollowsRounded {B : ℕ} (by_amount : Bool) (factor : ℕ → Fraction) (items : List Item)
    (total : ℕ) (grid : List (Iv B)) : Type 0 where
  pub low : (s : ℕ) → suc s < length grid
      → IsFloor (factor s *ℚ whole (next_sum (coefficient by_amount items) (low_at grid) s / total))
      (low_at grid (suc s))
  pub high : (s : ℕ) → suc s < length grid
      → IsCeilingWithin (2 ^ B)
      (factor s *ℚ whole (div_ceil (next_sum (coefficient by_amount items) (high_at grid) s) total))
      (high_at grid (suc s))

-- the recursion of the Poisson count of mean v
abbrev pub IsPoissonBase : {B : ℕ} → Sev → Fraction → List (Iv B) → Type 0
IsPoissonBase sev v grid = FollowsRounded true (λ s. v /ℚ whole (suc s)) sev.items sev.total grid

-- that of the geometric count of mean beta
abbrev pub IsGeometricBase : {B : ℕ} → Sev → Fraction → List (Iv B) → Type 0
IsGeometricBase sev beta grid =
    FollowsRounded false (λ s. beta /ℚ (whole 1 +ℚ beta)) sev.items sev.total grid

-- With the recursion r over f, the low end of each cell s is at most, and its high end at least,
-- r s times that of cell 0; the high end where no cell up to s reaches 1.
pub record StandsByRecursion {B : ℕ} (a c : Fraction) (f : ℕ → Fraction)
    (grid : List (Iv B)) : Type 0 where
  pub low : (r : ℕ → Fraction) → Recursion a c f r → (s : ℕ) → s < length grid
      → whole (low_at grid s) ≤ℚ whole (low_at grid 0) *ℚ r s
  pub high : (r : ℕ → Fraction) → Recursion a c f r → (s : ℕ) → s < length grid
      → ((k : ℕ) → k ≤ s → high_at grid k < 2 ^ B)
      → whole (high_at grid 0) *ℚ r s ≤ℚ whole (high_at grid s)
