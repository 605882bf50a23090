-- The low ends, the high ends and the widths of the same cells.
use Rattle.std.specs.Prelude.{ℕ, ◌≡◌, ◌+◌, ◌≤◌, List, length, get_or}
use Rattle.dl_limits.specs.Limits.{most_cells, most_cell_end}

-- as many of one kind as of the other, and no low end above its high end
pub record ArePaired (lows highs : List ℕ) : Type 0 where
  pub alike : length highs ≡ length lows
  pub order : (k : ℕ) → get_or lows k 0 ≤ get_or highs k 0

-- each high end is the low end and the width
abbrev pub AreWidths : (lows widths highs : List ℕ) → Type 0
AreWidths lows widths highs = (k : ℕ) → get_or lows k 0 + get_or widths k 0 ≡ get_or highs k 0

-- the ends of no more cells than a grid has, none of them above 1
pub record AreHeadEnds (lows highs : List ℕ) : Type 0 where
  pub paired : ArePaired lows highs
  pub few : length lows ≤ most_cells
  pub small : (k : ℕ) → get_or highs k 0 ≤ most_cell_end
