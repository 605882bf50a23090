-- The ends of cells in an operand.
use Rattle.std.specs.Prelude.{ℕ, ◌≡◌, ◌<◌, List, length, get_or}
use Rattle.dl_convolution.specs.Sums.{pair_sum, ItemsFit}
use Rattle.dl_product.specs.declared.ends.Ends.{Ends}
use Rattle.dl_product.specs.declared.operand.Operand.{Operand}
use Rattle.dl_product.specs.Places.{LieFrom}

-- the operand has those of these ends of cells that are not 0: as cells, its low ends lie where its
-- high ends do, and alone from their own start on
pub record HoldsEnds (lows highs : List ℕ) (o : Operand) : Type 0 where
  pub cells : LieFrom o.highs.start o.step (λ k. get_or o.cells.lows.now k 0) (λ x. get_or lows x 0)
  pub low : LieFrom o.lows.start o.step (λ k. get_or o.lows.items.now k 0) (λ x. get_or lows x 0)
  pub high : LieFrom o.highs.start o.step (λ k. get_or o.highs.items.now k 0) (λ x. get_or highs x 0)

-- two operands of one step, whose first n sums of products of ends fit words
pub record AreFactors (a b : Operand) (n : ℕ) : Type 0 where
  pub step : b.step ≡ a.step
  pub lows : ItemsFit a.lows.items.now b.lows.items.now n
  pub highs : ItemsFit a.highs.items.now b.highs.items.now n

-- the first n items are the sums of products of the items of two lists of ends
abbrev pub ArePairSums : (a b : Ends) → ℕ → List ℕ → Type 0
ArePairSums a b n sums = (s : ℕ) → s < n → get_or sums s 0 ≡ pair_sum a.items.now b.items.now s

-- the sums of products of any ends that the operands hold, one for each of the first n cells
pub record AreEndSums (a b : Operand) (n : ℕ) (lows highs : List ℕ) : Type 0 where
  pub low_cells : length lows ≡ n
  pub high_cells : length highs ≡ n
  pub low : (xs us ys vs : List ℕ) → HoldsEnds xs us a → HoldsEnds ys vs b → (s : ℕ) → s < n
      → get_or lows s 0 ≡ pair_sum xs ys s
  pub high : (xs us ys vs : List ℕ) → HoldsEnds xs us a → HoldsEnds ys vs b → (s : ℕ) → s < n
      → get_or highs s 0 ≡ pair_sum us vs s
