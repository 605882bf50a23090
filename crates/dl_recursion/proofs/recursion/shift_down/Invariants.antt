use Rattle.dl_recursion.proofs.Common.{◌≡◌, ℕ, ◌+◌, ◌*◌, ◌-◌, ◌^◌, ◌≤◌, ◌⊎◌, List, length, Fraction, whole, ◌≤ℚ◌, Run, AreWindows, AreScaledCells, EncloseScaled}
use Rattle.dl_recursion.specs.Recursion.{HasCellsOf}
use Rattle.dl_recursion.proofs.recursion.shift_down.Given as goal

abbrev pub invariant-loop-k : goal.invariant-loop-k
invariant-loop-k l = record {
  sound : AreScaledCells l.x.low.items l.x.high.items l.x.first;
  windows : (runs : List Run) (s : ℕ)
      → AreWindows runs l.initial.x.low.items l.initial.x.high.items s l.initial.x.windows.items
      → AreWindows runs l.x.low.items l.x.high.items s l.x.windows.items;
  all_or_none : (length l.x.windows.items ≡ length l.initial.x.windows.items) ⊎ (length l.x.windows.items ≡ 0);
  cells : length l.x.low.items ≡ length l.initial.x.low.items;
  rises : l.initial.x.shift ≤ l.x.shift;
  kept : l.x.shift ≡ l.initial.x.shift → HasCellsOf l.initial.x l.x;
  shift : l.x.shift ≤ l.initial.x.shift + 8 * l.k;
  top : l.high ≤ 2 ^ (126 - 8 * l.k);
  round : (r : ℕ → Fraction) (n : ℕ) → EncloseScaled r l.initial.x.shift n l.initial.x.low.items l.initial.x.high.items
      → EncloseScaled r l.x.shift n l.x.low.items l.x.high.items;
  low_end : (y : Fraction) → whole (l.fn.next.low * 2 ^ l.initial.x.shift) ≤ℚ y → whole (l.low * 2 ^ l.x.shift) ≤ℚ y;
  high_end : (y : Fraction) → y ≤ℚ whole (l.fn.next.high * 2 ^ l.initial.x.shift) → y ≤ℚ whole (l.high * 2 ^ l.x.shift);
}
