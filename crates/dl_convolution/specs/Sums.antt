-- Products of two lists of numbers: an item for each sum of two places.
use Rattle.std.specs.Prelude.{ℕ, ◌*◌, ◌≤◌, List, get_or, All}
use Rattle.dl_limits.specs.Limits.{most_cells}
use Rattle.dl_exact.specs.Count.{count_pairs}
use Rattle.dl_grid.specs.Room.{HasRoom}

-- the sum of a(i) * b(j) over all i + j = s, where what is past the end of a list is 0
abbrev pub pair_sum : List ℕ → List ℕ → ℕ → ℕ
pair_sum a b s = count_pairs s (λ i j. get_or a i 0 * get_or b j 0)

-- the first n items of the product of a and b can be summed in words: no item of the two lists is
-- above `top`, and n products of two numbers of at most `top` have room
pub record ItemsFit (a b : List ℕ) (n : ℕ) : Type 0 where
  pub top : ℕ
  pub first : All (λ x. x ≤ top) a
  pub second : All (λ y. y ≤ top) b
  pub room : HasRoom n top
  pub few : n ≤ most_cells
