use Rattle.dl_recursion.proofs.Common.{◌≡◌, ℕ, ◌<◌, ◌≤◌, get_or}
use Rattle.dl_recursion.proofs.recursion.advance.Given as goal

abbrev pub invariant-loop-i : goal.invariant-loop-i
invariant-loop-i l = record {
  low : (k : ℕ) → k < l.i → get_or l.low k 0 ≡ 0;
  high : (k : ℕ) → k < l.i → get_or l.high k 0 ≤ 1;
}
