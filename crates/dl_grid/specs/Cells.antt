-- A grid as the list of its cells, one for each number of buckets: its ends, its mass and its
-- spread, in units of 1 / 2^B.
use Rattle.std.specs.Prelude.{ℕ, zero, suc, ◌-◌, ◌^◌, ◌<◌, ◌≤◌, ◌≡◌, ◌⊎◌, List, [], ◌∷◌, ◌++◌, length, get_or, map, All, sum, sum_by}
use Rattle.std.proofs.Common.{inr}
use Rattle.std.proofs.lemmas.Bool.{cases_lt}
use Rattle.dl_limits.specs.Limits.{most_cells_at, most_high}
use Rattle.dl_iv.specs.declared.interval.Iv.{Iv}
use Rattle.dl_grid.specs.Room.{IsGridSize}

-- the low end of cell x, 0 past the end
unfoldable pub low_at : {B : ℕ} → List (Iv B) → ℕ → ℕ
low_at [] x = 0
low_at (cell ∷ cells) zero = cell.lo
low_at (cell ∷ cells) (suc x) = low_at cells x

-- the high end of cell x, 0 past the end
unfoldable pub high_at : {B : ℕ} → List (Iv B) → ℕ → ℕ
high_at [] x = 0
high_at (cell ∷ cells) zero = cell.hi
high_at (cell ∷ cells) (suc x) = high_at cells x

-- the sum of the low ends
abbrev pub mass_low : {B : ℕ} → List (Iv B) → ℕ
mass_low cells = sum_by (λ cell. cell.lo) cells

-- the sum of the high ends
abbrev pub mass_high : {B : ℕ} → List (Iv B) → ℕ
mass_high cells = sum_by (λ cell. cell.hi) cells

-- the sum of the widths
abbrev pub spread : {B : ℕ} → List (Iv B) → ℕ
spread cells = sum_by (λ cell. cell.hi - cell.lo) cells

-- 1 to `most_cells_at B` cells, of which each is at most 1 and the low ends sum to at most 1
pub record IsGrid {B : ℕ} (cells : List (Iv B)) : Type 0 where
  pub some : 1 ≤ length cells
  pub few : length cells ≤ most_cells_at B
  pub small : All (λ cell. cell.hi ≤ 2 ^ B) cells
  pub mass : mass_low cells ≤ 2 ^ B

-- the whole mass at 0
unfoldable pub all_at_zero : ℕ → ℕ → ℕ
all_at_zero mass zero = mass
all_at_zero mass (suc x) = 0

-- the low ends and the high ends of cells, each as a list of its own
abbrev pub low_ends : {B : ℕ} → List (Iv B) → List ℕ
low_ends cells = map (λ cell. cell.lo) cells

abbrev pub high_ends : {B : ℕ} → List (Iv B) → List ℕ
high_ends cells = map (λ cell. cell.hi) cells

-- two lists that are the low ends and the high ends of a grid
pub record AreEnds (B : ℕ) (lows highs : List ℕ) : Type 0 where
  pub size : IsGridSize B (length lows)
  pub paired : length highs ≡ length lows
  pub ordered : (x : ℕ) → get_or lows x 0 ≤ get_or highs x 0
  pub small : All (λ high. high ≤ 2 ^ B) highs
  pub mass : sum lows ≤ 2 ^ B

-- the one cell with these ends, or none where no interval has them
unfoldable pub cell_by : {B lo hi : ℕ} → ((hi < lo) ⊎ (lo ≤ hi)) → ((most_high < hi) ⊎ (hi ≤ most_high))
    → ((B < 1) ⊎ (1 ≤ B)) → ((56 < B) ⊎ (B ≤ 56)) → List (Iv B)
cell_by {B} {lo} {hi} (inr p) (inr q) (inr r) (inr s) =
    record { lo = lo; hi = hi; ordered = p; in_range = q; scale_above = r; scale_below = s } ∷ []
cell_by ordered in_range above below = []

-- the cells with these ends
unfoldable pub cells_of : (B : ℕ) → List ℕ → List ℕ → List (Iv B)
cells_of B (lo ∷ lows) (hi ∷ highs) =
    cell_by (cases_lt hi lo) (cases_lt (most_high) hi) (cases_lt B 1) (cases_lt 56 B)
    ++ cells_of B lows highs
cells_of B lows highs = []
