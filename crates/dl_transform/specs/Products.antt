-- Products of two lists of cells.
use Rattle.std.specs.Prelude.{ℕ, ◌≡◌, ◌+◌, ◌*◌, ◌^◌, ◌<◌, ◌≤◌, List, Option, length, slice_index, sum_by}
use Rattle.std.specs.Option.{unwrap_or}
use Rattle.dl_transform.specs.Ends.{high_at, high_sum, low_sum, mixed_sum}
use Rattle.dl_transform.specs.declared.cells.Cells.{Cells}

-- the second list of a product: where none is given the first, whose square is taken
abbrev pub other : Cells → Option Cells → Cells
other a b = unwrap_or b a

-- the first n items are the sums of products of the low ends of two lists of cells
abbrev pub AreLowSums : (a b : Cells) → ℕ → List ℕ → Type 0
AreLowSums a b n sums = (s : ℕ) → s < n → slice_index sums s ≡ low_sum a.lows.now b.lows.now s

-- the first n items are those of their high ends
abbrev pub AreHighSums : (a b : Cells) → ℕ → List ℕ → Type 0
AreHighSums a b n sums = (s : ℕ) → s < n
    → slice_index sums s ≡ high_sum a.lows.now a.widths.now b.lows.now b.widths.now s

-- no sum of products of high ends is above that of low ends by p or more
abbrev pub AreNarrow : ℕ → (a b : Cells) → Type 0
AreNarrow p a b = (s : ℕ) → mixed_sum a.lows.now a.widths.now b.lows.now b.widths.now s < p

-- no sum of products of high ends is as large as the bound
abbrev pub AreHighSumsBelow : ℕ → (a b : Cells) → Type 0
AreHighSumsBelow bound a b = (s : ℕ)
    → high_sum a.lows.now a.widths.now b.lows.now b.widths.now s < bound

-- a transform of 2^levels items has room for two lists of cells, which have no fewer than `count`
-- together
pub record HasRoomFor (levels : ℕ) (a b : Cells) (count : ℕ) : Type 0 where
  pub room : length a.lows.now + length b.lows.now ≤ 2 ^ levels
  pub within : count ≤ length a.lows.now + length b.lows.now

-- the sum of the high ends of the first list times a number that no high end of the second is
-- above is below the bound, so that all sums of products of high ends are
pub record AreSumsBelow (bound : ℕ) (a b : Cells) : Type 0 where
  pub greatest : ℕ
  pub above : (k : ℕ) → high_at b.lows.now b.widths.now k ≤ greatest
  pub below : greatest * (sum_by (λ x. x) a.lows.now + sum_by (λ x. x) a.widths.now) < bound

-- l levels of at most `most` serve the first `count` sums of products of two lists of cells
pub record AreServed (most l : ℕ) (a b : Cells) (count : ℕ) : Type 0 where
  pub levels : l ≤ most
  pub room : HasRoomFor l a b count
  pub sums : AreHighSumsBelow (2 ^ 123) a b
