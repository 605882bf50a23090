-- The first cells of a grid, up to where all further ones are alike.
use Rattle.std.specs.Prelude.{ℕ, ◌≡◌, ◌<◌, ◌≤◌, List, length, get_or}
use Rattle.dl_iv.specs.declared.interval.Iv.{Iv}
use Rattle.dl_grid.specs.Cells.{low_at, high_at, IsGrid}
use Rattle.dl_product.specs.declared.ends.Head.{Head}

-- the first n cells of a grid have the ends in the lists, and past these the low end 0 and the high
-- end `rest`
pub record IsHead {B : ℕ} (n : ℕ) (g : List (Iv B)) (h : Head) : Type 0 where
  pub grid : IsGrid g
  pub within : length h.highs.now ≤ n
  pub low : (x : ℕ) → x < n → get_or h.lows.now x 0 ≡ low_at g x
  pub high : (x : ℕ) → x < n → get_or h.highs.now x h.rest ≡ high_at g x
