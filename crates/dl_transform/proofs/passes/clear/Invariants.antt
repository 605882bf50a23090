use Rattle.dl_transform.proofs.Common.{ℕ, ◌≡◌, ◌<◌, ◌≤◌, get_or}
use Rattle.dl_transform.proofs.passes.clear.Given as goal

abbrev pub invariant-loop-i : goal.invariant-loop-i
invariant-loop-i l = record {
  before : (k : ℕ) → k < l.from → get_or l.x k 0 ≡ get_or l.fn.x k 0;
  zero : (k : ℕ) → l.from ≤ k → k < l.i → get_or l.x k 0 ≡ 0;
}
