-- What the cells before a block give to the cells of the block, where each amount counts by itself
-- alone.
use Rattle.std.specs.Prelude.{ℕ, ◌+◌, ◌-◌, ◌*◌, ◌^◌, ◌<◌, ◌≤◌, ◌≡◌, List, length, slice_index, All}
use Rattle.dl_exact.specs.Prelude.{count_below}
use Rattle.dl_recursion.specs.declared.parts.Part.{Part}
use Rattle.dl_recursion.specs.declared.cells.ScaledCells.{ScaledCells}
use Rattle.dl_recursion.specs.declared.blocks.Given.{Given}
use Rattle.dl_recursion.specs.Runs.{part_at}

-- the factors of the amounts below n: each is `after` times the amount times its weight
pub record AreFactors (parts : List Part) (after n : ℕ) (factors : List ℕ) : Type 0 where
  pub count : length factors ≡ n
  pub each : (j : ℕ) → j < n → slice_index factors j ≡ after * j * part_at parts j

-- how far each high end is above its low end, in words
pub record AreWidths (low high widths : List ℕ) : Type 0 where
  pub count : length widths ≡ length low
  pub each : (k : ℕ) → slice_index high k ≡ slice_index low k + slice_index widths k
  pub small : All (λ width. width < 2 ^ 64) widths

-- what the first m cells give to cell n: each times the factor of the amount that lies between
abbrev pub given_by : ℕ → (cells factors : List ℕ) → ℕ → ℕ
given_by m cells factors n =
    count_below m (λ k. slice_index cells k * slice_index factors (n - k))

-- what the first cells of x give to each of some cells, for both ends
pub record AreGivenBefore (factors : List ℕ) (x : ScaledCells) (given : Given) : Type 0 where
  pub within : given.cells ≤ length x.low.items
  pub alike : length given.high.items ≡ length given.low.items
  pub low : (n : ℕ) → given.cells ≤ n → n < length given.low.items
      → slice_index given.low.items n ≡ given_by given.cells x.low.items factors n
  pub high : (n : ℕ) → given.cells ≤ n → n < length given.low.items
      → slice_index given.high.items n ≡ given_by given.cells x.high.items factors n
