-- Panjer's recursion in whole numbers (Loss Models, "The recursive method"), and cells that share
-- an exponent.
use Rattle.std.specs.Prelude.{ℕ, zero, suc, ◌≡◌, ◌+◌, ◌-◌, ◌*◌, ◌/◌, ◌^◌, ◌<◌, ◌≤◌, ◌⊎◌, if◌then◌else◌, nat_le, max, All, List, [], ◌∷◌, get_or, slice_index, length, sum_by}
use Rattle.dl_limits.specs.Limits.{start_bits, most_end, most_given}
use Rattle.dl_exact.specs.Prelude.{Fraction, whole, ◌*ℚ◌, ◌≤ℚ◌, sum_pairs, count_below}
use Rattle.dl_recursion.specs.declared.parts.Part.{Part}
use Rattle.dl_recursion.specs.declared.parts.Run.{Run}
use Rattle.dl_recursion.specs.declared.parts.Amounts.{Amounts}
use Rattle.dl_recursion.specs.declared.cells.Window.{Window}
use Rattle.dl_recursion.specs.declared.cells.Windows.{Windows}
use Rattle.dl_recursion.specs.declared.cells.Ends.{Ends}
use Rattle.dl_recursion.specs.declared.cells.ScaledCells.{ScaledCells}
use Rattle.dl_recursion.specs.Runs.{part_at, part_sum, all_parts}

-- the cell that lies this amount before cell s, or 0 where there is none
abbrev pub cell_before : List ℕ → ℕ → ℕ → ℕ
cell_before cells s amount = if nat_le amount s then slice_index cells (s - amount) else 0

-- what one part gives to cell s: the cell that lies its amount before, times its weight and its
-- factor, `before` for each cell up to that one and `after` for each from there to s
abbrev pub contribution : ℕ → ℕ → List ℕ → ℕ → Part → ℕ
contribution before after cells s p =
    (before * (s - p.amount) + after * p.amount) * p.weight * cell_before cells s p.amount

-- room for cell n: the most that a part's factor can be is below 2^64, and so is that times the
-- weights together
pub record HasRoom (before after weight n : ℕ) : Type 0 where
  pub steps : max before after * n < 2 ^ 64
  pub weights : max before after * n * weight < 2 ^ 64

-- room for cell n and for what it is divided by, q * n
pub record HasRoomOver (q before after weight n : ℕ) : Type 0 where
  pub room : HasRoom before after weight n
  pub divisor : 0 < q
  pub divisors : q * n < 2 ^ 64

-- the recursion in whole numbers: q * (n + 1) * r (n + 1) is the sum over the amounts 1 + i and the
-- cells k with i + k = n
pub record FollowsInWhole (parts : List Part) (before after q : ℕ) (r : ℕ → Fraction) : Type 0 where
  pub start : r zero ≡ whole 1
  pub next : (n : ℕ) → whole (q * suc n) *ℚ r (suc n)
      ≡ sum_pairs n (λ i k. whole ((before * k + after * suc i) * part_at parts (suc i)) *ℚ r k)

-- in units of 2^e the numbers enclose 2^61 times r k, for each k below n
pub record EncloseScaled (r : ℕ → Fraction) (e n : ℕ) (low high : List ℕ) : Type 0 where
  pub low_end : (k : ℕ) → k < n → whole (slice_index low k * 2 ^ e) ≤ℚ whole (2 ^ start_bits) *ℚ r k
  pub high_end : (k : ℕ) → k < n → whole (2 ^ start_bits) *ℚ r k ≤ℚ whole
      (slice_index high k * 2 ^ e)

-- the ends of as many cells, none above this one
pub record AreEnds (most : ℕ) (low high : List ℕ) : Type 0 where
  pub alike : length high ≡ length low
  pub low_small : (k : ℕ) → slice_index low k ≤ most
  pub high_small : (k : ℕ) → slice_index high k ≤ most

-- the ends of as many cells, each at most 2^62; those of the first cells are 0, and 0 or 1, which
-- no shift down changes
pub record AreScaledCells (low high : List ℕ) (first : ℕ) : Type 0 where
  pub alike : length high ≡ length low
  pub low_small : (k : ℕ) → slice_index low k ≤ most_end
  pub high_small : (k : ℕ) → slice_index high k ≤ most_end
  pub low_settled : (k : ℕ) → k < first → slice_index low k ≡ 0
  pub high_settled : (k : ℕ) → k < first → slice_index high k ≤ 1
  pub within : first ≤ length low

-- the cells that lie an amount of the run before cell s: their sum, and their sum with each times
-- how far its amount lies above the run's first
pub record IsWindow (ends : List ℕ) (s : ℕ) (run : Run) (window : Window) : Type 0 where
  pub cells : window.cells ≡ count_below run.count (λ k. cell_before ends s (run.amount + k))
  pub steps : window.steps ≡ count_below run.count (λ k. k * cell_before ends s (run.amount + k))

-- those of the low ends and of the high ends
pub record AreWindow (low high : List ℕ) (s : ℕ) (run : Run) (windows : Windows) : Type 0 where
  pub low_window : IsWindow low s run windows.low
  pub high_window : IsWindow high s run windows.high

-- those of the runs, in order
abbrev pub AreWindows : List Run → List ℕ → List ℕ → ℕ → List Windows → Type 0
AreWindows runs low high s windows = (k : ℕ) (run : Run) (d : Windows) → k < length windows
    → AreWindow low high s (get_or runs k run) (get_or windows k d)

-- cells, at least one, with the windows of all runs at the last of them, or of none
pub record AreInScale (runs : List Run) (x : ScaledCells) : Type 0 where
  pub sound : AreScaledCells x.low.items x.high.items x.first
  pub some : 0 < length x.low.items
  pub windows : AreWindows runs x.low.items x.high.items (length x.low.items - 1) x.windows.items
  pub all_or_none : (length x.windows.items ≡ length runs) ⊎ (length x.windows.items ≡ 0)

-- y is x with all cells shifted down by 8 bits, low ends by floor and high ends by ceiling
pub record IsShifted (x y : ScaledCells) : Type 0 where
  pub sound : AreScaledCells y.low.items y.high.items y.first
  pub cells : length y.low.items ≡ length x.low.items
  pub shift : y.shift ≡ x.shift + 8
  pub low : (k : ℕ) → slice_index y.low.items k ≡ slice_index x.low.items k / 256
  pub high : (k : ℕ) → slice_index y.high.items k ≡ (slice_index x.high.items k + 255) / 256

-- y has the cells of x
pub record HasCellsOf (x y : ScaledCells) : Type 0 where
  pub low : y.low ≡ x.low
  pub high : y.high ≡ x.high
  pub first : y.first ≡ x.first
  pub shift : y.shift ≡ x.shift

-- what these amounts give to the cell after those of x
pub record AreGiven (parts : List Part) (before after : ℕ) (x : ScaledCells) (ends : Ends) : Type 0 where
  pub low : ends.low ≡ sum_by (contribution before after x.low.items (length x.low.items)) parts
  pub high : ends.high ≡ sum_by (contribution before after x.high.items (length x.low.items)) parts

-- what all amounts give to the cell after those of x; y is x with the windows of all runs there
pub record AreContributions (amounts : Amounts) (before after : ℕ) (x y : ScaledCells) (ends : Ends)
    : Type 0 where
  pub low : ends.low
      ≡ sum_by (contribution before after x.low.items (length x.low.items)) (all_parts amounts)
  pub high : ends.high
      ≡ sum_by (contribution before after x.high.items (length x.low.items)) (all_parts amounts)
  pub high_room : ends.high ≤ most_given
  pub windows : AreWindows amounts.runs.items y.low.items y.high.items (length y.low.items)
      y.windows.items
  pub each_run : length y.windows.items ≡ length amounts.runs.items
  pub same : HasCellsOf x y

-- y has the cells of x, and maybe more
pub record HasCellsAs (x y : ScaledCells) : Type 0 where
  pub low : (k : ℕ) → k < length x.low.items → slice_index y.low.items k ≡ slice_index x.low.items k
  pub high : (k : ℕ) → k < length x.low.items
      → slice_index y.high.items k ≡ slice_index x.high.items k

-- y has one cell more than x, the next one of the recursion
pub record IsGrown (amounts : Amounts) (before after q : ℕ) (x y : ScaledCells) : Type 0 where
  pub in_scale : AreInScale amounts.runs.items y
  pub cells : length y.low.items ≡ length x.low.items + 1
  pub shift : y.shift ≤ x.shift + 64
  pub kept : y.shift ≡ x.shift → HasCellsAs x y
  pub round : (r : ℕ → Fraction) → FollowsInWhole (all_parts amounts) before after q r
      → EncloseScaled r x.shift (length x.low.items) x.low.items x.high.items
      → EncloseScaled r y.shift (length y.low.items) y.low.items y.high.items

-- no amount is above `top`, and at cell n no factor of an amount, times the sum of the weights, is
-- above q * n
pub record AreFalling (parts : List Part) (before after q top n : ℕ) : Type 0 where
  pub reach : All (λ p. p.amount ≤ top) parts
  pub falling : (before * n + (after - before) * top) * part_sum parts ≤ q * n

-- no end from cell n on is above this one
pub record AreLast (ends : List ℕ) (n high : ℕ) : Type 0 where
  pub below : (k : ℕ) → n ≤ k → slice_index ends k ≤ high

-- cell 0 alone
pub record IsBegun (x : ScaledCells) : Type 0 where
  pub low : x.low.items ≡ 2 ^ start_bits ∷ []
  pub high : x.high.items ≡ 2 ^ start_bits ∷ []
  pub first : x.first ≡ 0
  pub shift : x.shift ≡ 0
  pub windows : x.windows.items ≡ []

-- the first n cells of the recursion
pub record AreFirst (parts : List Part) (before after q n : ℕ) (x : ScaledCells) : Type 0 where
  pub cells : length x.low.items ≡ n
  pub shift : x.shift ≤ 64 * n
  pub sound : AreScaledCells x.low.items x.high.items x.first
  pub round : (r : ℕ → Fraction) → FollowsInWhole parts before after q r
      → EncloseScaled r x.shift n x.low.items x.high.items
