-- The ends of one outcome after the change, in units of 1 / S, and how wide they may lie apart.
use Rattle.std.specs.Prelude.{ℕ, ◌≡◌, ◌+◌, ◌-◌, ◌*◌, ◌/◌, ◌^◌, ◌<◌, ◌≤◌, min, List, length}
use Rattle.std.specs.Int.{div_ceil}
use Rattle.dl_exact.specs.Fraction.{Fraction}
use Rattle.dl_grid.specs.Cells.{low_at, high_at, mass_low, all_at_zero}
use Rattle.dl_iv.specs.declared.interval.Iv.{Iv}

-- The low end of the outcome y with the probability p of no claim, from its low end before. At
-- y = 0 the high end of the probability of no claim is taken off; what is left is divided by the
-- high end of the probability of a claim and multiplied by 1 - p; at y = 0 then p is added. Each
-- step is rounded down.
unfoldable pub low_changed : (S none_low none_high : ℕ) (p : Fraction) (y low : ℕ) → ℕ
low_changed S none_low none_high p y low =
    (low - all_at_zero none_high y) * S / (S - none_low) * (p.den - p.num) / p.den
    + all_at_zero (S * p.num / p.den) y

-- the same of the high ends, each step rounded up
unfoldable pub high_changed : (S none_low none_high : ℕ) (p : Fraction) (y high : ℕ) → ℕ
high_changed S none_low none_high p y high =
    div_ceil
    (div_ceil ((high - all_at_zero none_low y) * S) (S - none_high) * (p.den - p.num)) p.den
    + all_at_zero (div_ceil (S * p.num) p.den) y

-- The low ends of a grid, of which that of the outcome 0 is lowered by the high end of the
-- probability of no claim, add up to at most 1 with the low end of that probability: outcomes of at
-- least one claim have no more than what no claim leaves.
abbrev pub HasRoomForNone : {B : ℕ} → List (Iv B) → Iv B → Type 0
HasRoomForNone {B} cells chance =
    mass_low cells - low_at cells 0 + (low_at cells 0 - chance.hi) + chance.lo ≤ 2 ^ B

-- the ends of a grid after the change
pub record AreChangedEnds {B : ℕ} (p : Fraction) (cells : List (Iv B)) (chance : Iv B)
    (after : List (Iv B)) : Type 0 where
  pub low : (y : ℕ) → y < length cells → low_at after y
      ≡ min (low_changed (2 ^ B) chance.lo chance.hi p y (low_at cells y)) (2 ^ B)
  pub high : (y : ℕ) → y < length cells → high_at after y
      ≡ min (high_changed (2 ^ B) chance.lo chance.hi p y (high_at cells y)) (2 ^ B)

-- how wide the cells may lie apart after the change, from the spread of the grid before, the width
-- of the probability of no claim, which is at most 17 / 18, and the number of cells
abbrev pub changed_spread : (spread none cells : ℕ) → ℕ
changed_spread spread none cells = 18 * (spread + 2 * none) + 4 * cells + 2

-- how wide the mean may be after the change, from the width of the mean before, which is at most m
-- buckets, and that of the probability of no claim
abbrev pub changed_mean_width : (mean m none : ℕ) → ℕ
changed_mean_width mean m none = 18 * (mean + 2) + 306 * m * none + 2
