-- Items that lie a common step apart.
use Rattle.std.specs.Prelude.{ℕ, ◌≡◌, ◌+◌, ◌*◌, ◌<◌, ◌≤◌, ◌%◌, List, get_or}
use Rattle.dl_limits.specs.Limits.{most_cells}

-- the items that are not 0 lie at multiples of g
abbrev pub LieApart : ℕ → List ℕ → Type 0
LieApart g xs = (i : ℕ) → 0 < i % g → get_or xs i 0 ≡ 0

-- the items of xs at the multiples of g, one after another
abbrev pub AreMultiples : ℕ → List ℕ → List ℕ → Type 0
AreMultiples g xs items = (k : ℕ) → get_or items k 0 ≡ get_or xs (k * g) 0

-- `cells` has the items from place `start` on, `step` apart, and is 0 elsewhere
pub record LieFrom (start step : ℕ) (items cells : ℕ → ℕ) : Type 0 where
  pub at : (k : ℕ) → items k ≡ cells (start + k * step)
  pub before : (i : ℕ) → i < start → cells i ≡ 0
  pub between : (i : ℕ) → 0 < i % step → cells (start + i) ≡ 0

-- `many` items of a grid, the first of them at place `start`
pub record ArePlaces (start many : ℕ) : Type 0 where
  pub early : start ≤ most_cells
  pub few : many ≤ most_cells

-- how many items from place `start` on, `step` apart, lie before place `cells`; `most` at most
pub record IsCount (cells start step most count : ℕ) : Type 0 where
  pub within : count ≤ cells
  pub inside : (k : ℕ) → k < count → start + k * step < cells
  pub all : (k : ℕ) → count ≤ k → start + k * step < cells → most ≤ k
