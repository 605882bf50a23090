-- What a pass over the cells uses: the sum of the cells of a run's window, the factor for a weight
-- over q, and cells up to a bound.
use Rattle.std.specs.Prelude.{ℕ, ◌+◌, ◌*◌, ◌^◌, ◌≤◌, ◌≡◌, List, length}
use Rattle.dl_exact.specs.Prelude.{count_below}
use Rattle.dl_recursion.specs.declared.parts.Run.{Run}
use Rattle.dl_recursion.specs.declared.cells.ScaledCells.{ScaledCells}
use Rattle.dl_recursion.specs.Recursion.{cell_before, AreEnds}

-- the sum of the cells that lie an amount of the run before cell s
abbrev pub window_sum : List ℕ → ℕ → Run → ℕ
window_sum cells s run = count_below run.count (λ k. cell_before cells s (run.amount + k))

-- weight over q lies from the factor to the next number, in units of 1 / 2^64
pub record IsFactor (weight q factor : ℕ) : Type 0 where
  pub low : factor * q ≤ weight * 2 ^ 64
  pub high : weight * 2 ^ 64 ≤ (factor + 1) * q

-- n cells, with no end above this one
pub record AreUpTo (n most : ℕ) (x : ScaledCells) : Type 0 where
  pub cells : length x.low.items ≡ n
  pub ends : AreEnds most x.low.items x.high.items
  pub first : x.first ≡ 0
