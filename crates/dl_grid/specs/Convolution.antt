-- The convolution of two grids: the grid of the sum of two independent amounts.
use Rattle.std.specs.Prelude.{ℕ, ◌≡◌, ◌*◌, ◌/◌, ◌^◌, ◌<◌, List, min}
use Rattle.std.specs.Int.{div_ceil}
use Rattle.dl_exact.specs.Count.{count_pairs}
use Rattle.dl_iv.specs.declared.interval.Iv.{Iv}
use Rattle.dl_grid.specs.Cells.{low_at, high_at}

-- Each of the first n cells of g is that of the convolution of a and b, rounded once: the sum of
-- the products of their low ends down, and that of their high ends up, and to at most 1.
pub record IsConvolution {B : ℕ} (n : ℕ) (a b g : List (Iv B)) : Type 0 where
  pub low : (s : ℕ) → s < n
      → low_at g s ≡ count_pairs s (λ i j. low_at a i * low_at b j) / 2 ^ B
  pub high : (s : ℕ) → s < n → high_at g s
      ≡ min (2 ^ B) (div_ceil (count_pairs s (λ i j. high_at a i * high_at b j)) (2 ^ B))
