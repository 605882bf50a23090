use Rattle.dl_recursion.proofs.Common.{◌≡◌, ℕ, ◌/◌, ◌<◌, ◌≤◌, get_or}
use Rattle.dl_recursion.proofs.recursion.lower.Given as goal

abbrev pub invariant-loop-i : goal.invariant-loop-i
invariant-loop-i l = record {
  done : (k : ℕ) → k < l.i → get_or l.cells k 0 ≡ get_or l.initial.cells k 0 / 256;
  left : (k : ℕ) → l.i ≤ k → get_or l.cells k 0 ≡ get_or l.initial.cells k 0;
}
