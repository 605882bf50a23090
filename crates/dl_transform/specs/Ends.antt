-- The ends of a list of cells, as their low ends and widths.
use Rattle.std.specs.Prelude.{ℕ, ◌+◌, ◌*◌, ◌^◌, ◌<◌, ◌≤◌, List, length, slice_index, All}
use Rattle.dl_exact.specs.Count.{count_pairs}

-- each cell has a low end and the first ones a width, in words; the others have the width 0
pub record AreWords (lows widths : List ℕ) : Type 0 where
  pub within : length widths ≤ length lows
  pub low : All (λ x. x < 2 ^ 64) lows
  pub width : All (λ x. x < 2 ^ 64) widths

-- high end k
abbrev pub high_at : (lows widths : List ℕ) → ℕ → ℕ
high_at lows widths k = slice_index lows k + slice_index widths k

-- the sum of the products of the low ends of cells i and j over all i + j = s
abbrev pub low_sum : (a b : List ℕ) → ℕ → ℕ
low_sum a b s = count_pairs s (λ i j. slice_index a i * slice_index b j)

-- that of their high ends, each a low end and a width: a and u of the first list, b and v of the
-- second
abbrev pub high_sum : (a u b v : List ℕ) → ℕ → ℕ
high_sum a u b v s =
    count_pairs s (λ i j. (slice_index a i + slice_index u i) * (slice_index b j + slice_index v j))

-- what the latter is above the former
abbrev pub mixed_sum : (a u b v : List ℕ) → ℕ → ℕ
mixed_sum a u b v s =
    count_pairs s (λ i j.
    slice_index a i * slice_index v j + slice_index u i * (slice_index b j + slice_index v j))
