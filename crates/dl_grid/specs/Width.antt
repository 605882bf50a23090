-- The width rule: how far apart the ends of a grid and of what is read from it may lie, known
-- before either is. S units make 1; a spread is the sum of the widths of a grid's cells, in those
-- units.
use Rattle.std.specs.Prelude.{ℕ, zero, suc, ◌+◌, ◌-◌, ◌*◌, ◌≤◌, Option, Some, None, List, [], ◌∷◌, fold}
use Rattle.dl_exact.specs.Fraction.{Fraction, ◌over◌}
unfoldable pub use Rattle.dl_exact.specs.Rounding.{up}

-- ---- grids

-- the spread of a convolution on k cells, of grids with the spreads x and y
unfoldable pub convolution_spread : (S k x y : ℕ) → ℕ
convolution_spread S k x y = x + y + up ((x * y) over S) + 2 * k

-- a number of at least 1, by its binary digits
pub data Binary : Type 0 where
  one : Binary
  twice : Binary → Binary
  twice_and_one : Binary → Binary

-- one more
unfoldable pub next : Binary → Binary
next one = twice one
next (twice m) = twice_and_one m
next (twice_and_one m) = twice (next m)

-- m + 1
unfoldable pub binary : (m : ℕ) → Binary
binary zero = one
binary (suc m) = next (binary m)

-- the spread of a power of a grid with the spread b, on k cells: half of the factors, that squared,
-- and for an odd number one factor more
unfoldable pub binary_spread : (S k b : ℕ) → Binary → ℕ
binary_spread S k b one = b
binary_spread S k b (twice m) = convolution_spread S k (binary_spread S k b m) (binary_spread S k b m)
binary_spread S k b (twice_and_one m) =
    convolution_spread S k (convolution_spread S k (binary_spread S k b m) (binary_spread S k b m)) b

-- that of the m-th power; the power of no factors has no spread
unfoldable pub power_spread : (S k b m : ℕ) → ℕ
power_spread S k b zero = 0
power_spread S k b (suc m) = binary_spread S k b (binary m)

-- the spread of a listed number of claims on k cells, of which the greatest is c, where one claim's
-- grid has the spread b: 1 for the greatest itself, and for each number before it that of a
-- convolution with one more claim, and 2 units more
unfoldable pub mixed_spread : (S k b c : ℕ) → ℕ
mixed_spread S k b zero = 1
mixed_spread S k b (suc c) = convolution_spread S k b (mixed_spread S k b c) + 2

-- the spread of grids added up on k cells, from the spread of each: it starts with that of the
-- first grid and takes in each further one as a convolution does; that of no grid is 0
abbrev pub sum_spread : (S k : ℕ) → List ℕ → ℕ
sum_spread S k [] = 0
sum_spread S k (x ∷ xs) = fold (convolution_spread S k) x xs

-- ---- what is read from a grid

-- how wide the mean of a layer may be, from the width of the mean of the total and from the spread
-- of its grid
abbrev pub layer_width : (limit : Option ℕ) (attachment mean spread : ℕ) → ℕ
layer_width None attachment mean spread = mean + attachment * spread
layer_width (Some limit) attachment mean spread = limit * spread

-- how wide the tail mean at p may be, from the width of the mean of the total, and from the cells
-- and the spread of its grid
abbrev pub tail_width : (p : Fraction) (mean cells spread : ℕ) → ℕ
tail_width p mean cells spread = up (((2 * mean + 3 * cells * spread) * p.den) over
    (p.den - p.num)) + 4

-- ---- how large spreads grow

-- a spread with what one more convolution on k cells adds to it by rounding, and `more` units
-- besides
unfoldable pub rounded_spread : (k more x : ℕ) → ℕ
rounded_spread k more x = x + 2 * k + 1 + more

-- x is at most c / (1 - c/S)
abbrev pub IsSizeWithin : (S c x : ℕ) → Type 0
IsSizeWithin S c x = x * (S - c) ≤ c * S
