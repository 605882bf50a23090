-- How large a grid is, and the room that sums of products of its ends have in a word.
use Rattle.std.specs.Prelude.{ℕ, ◌*◌, ◌≤◌}
use Rattle.dl_limits.specs.Limits.{most_cells_at, most_cell_end, most_products}

-- a grid whose ends are in units of 1 / 2^B may have so many cells: more at a coarser scale
pub record IsGridSize (B cells : ℕ) : Type 0 where
  pub scale_above : 1 ≤ B
  pub scale_below : B ≤ 56
  pub some : 1 ≤ cells
  pub few : cells ≤ most_cells_at B

-- n numbers of at most `top` have room: a number in 56 bits, and n products of two of them, added
-- up, in 126 bits
pub record HasRoom (n top : ℕ) : Type 0 where
  pub word : top ≤ most_cell_end
  pub sums : n * (top * top) ≤ most_products
