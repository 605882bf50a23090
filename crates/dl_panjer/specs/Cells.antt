-- One step of a grid's recursion, in whole numbers.
use Rattle.std.specs.Prelude.{ℕ, suc, Bool, ◌≡◌, ◌+◌, ◌-◌, ◌*◌, ◌/◌, ◌^◌, ◌<◌, ◌≤◌, true, false, All, List, length, min, if◌then◌else◌}
use Rattle.std.specs.Int.{div_ceil}
use Rattle.dl_exact.specs.Prelude.{Fraction, count_pairs}
use Rattle.dl_grid.specs.Prelude.{IsGridSize}
use Rattle.dl_iv.specs.declared.interval.Iv.{Iv}
use Rattle.dl_plan.specs.declared.item.Item.{Item}
use Rattle.dl_plan.specs.Weighted.{weight_at}
use Rattle.dl_panjer.specs.declared.rate.Rate.{Rate}

-- the first cells of a grid, each at most 1
pub record AreFirstCells {B : ℕ} (cells : List (Iv B)) : Type 0 where
  pub size : IsGridSize B (length cells)
  pub small : All (λ cell. cell.hi ≤ 2 ^ B) cells

-- amount * n, or n where amounts do not count
abbrev pub counted : Bool → ℕ → ℕ → ℕ
counted by_amount amount n = if by_amount then amount * n else n

-- the term of an item in the sum for cell n: its weight, or its amount times its weight, times the
-- end of cell n - amount
abbrev pub given : Bool → (ℕ → ℕ) → ℕ → Item → ℕ
given by_amount ends n item = counted by_amount item.amount item.weight * ends (n - item.amount)

-- the coefficient of the amount i + 1: its weight, or i + 1 times its weight
abbrev pub coefficient : Bool → List Item → ℕ → ℕ
coefficient by_amount items i = counted by_amount (suc i) (weight_at items (suc i))

-- the sum for cell s + 1, before its divisions: of c i * ends k over all i + k = s
abbrev pub next_sum : (ℕ → ℕ) → (ℕ → ℕ) → ℕ → ℕ
next_sum c ends s = count_pairs s (λ i k. c i * ends k)

-- the low end of cell s + 1 from those before it, in units of 1 / scale, by two floors
abbrev pub low_next : Bool → List Item → ℕ → Rate → (ℕ → ℕ) → ℕ → ℕ
low_next by_amount items total rate ends s =
    next_sum (coefficient by_amount items) ends s / total * rate.num / counted by_amount
    (suc s) rate.den

-- its high end, by two ceilings, and at most the scale
abbrev pub high_next : ℕ → Bool → List Item → ℕ → Rate → (ℕ → ℕ) → ℕ → ℕ
high_next scale by_amount items total rate ends s =
    min scale (div_ceil (div_ceil (next_sum (coefficient by_amount items) ends s) total * rate.num)
    (counted by_amount (suc s) rate.den))

-- ---- of a gamma count of shape t: an amount i + 1 that leaves k counts k + t * (i + 1) times

-- the sum for cell s + 1, times t's denominator, before its division by the cell's number: over all
-- i + k = s of k times the weight of i + 1 times the end of k, over the whole weight, and of i + 1
-- times the same
abbrev pub low_of_shape : List Item → ℕ → Fraction → (ℕ → ℕ) → ℕ → ℕ
low_of_shape items total t ends s =
    t.den * (next_sum (coefficient false items) (λ k. k * ends k) s / total)
    + t.num * (next_sum (coefficient true items) ends s / total)

abbrev pub high_of_shape : List Item → ℕ → Fraction → (ℕ → ℕ) → ℕ → ℕ
high_of_shape items total t ends s =
    t.den * div_ceil (next_sum (coefficient false items) (λ k. k * ends k) s) total
    + t.num * div_ceil (next_sum (coefficient true items) ends s) total

-- the low end of cell s + 1 from those before it, by three floors
abbrev pub low_next_of_shape : List Item → ℕ → Fraction → Rate → (ℕ → ℕ) → ℕ → ℕ
low_next_of_shape items total t rate ends s =
    low_of_shape items total t ends s / (t.den * suc s) * rate.num / rate.den

-- its high end, by three ceilings, and at most the scale
abbrev pub high_next_of_shape : ℕ → List Item → ℕ → Fraction → Rate → (ℕ → ℕ) → ℕ → ℕ
high_next_of_shape scale items total t rate ends s =
    min scale (div_ceil (div_ceil (high_of_shape items total t ends s) (t.den * suc s) * rate.num)
    rate.den)

-- ---- all cells

-- each of so many cells but the first follows from those before it, by a step for low ends and one
-- for high ends
pub record Follows (low_step high_step : (ℕ → ℕ) → ℕ → ℕ) (lo hi : ℕ → ℕ) (cells : ℕ) : Type 0 where
  pub low : (s : ℕ) → suc s < cells → lo (suc s) ≡ low_step lo s
  pub high : (s : ℕ) → suc s < cells → hi (suc s) ≡ high_step hi s
