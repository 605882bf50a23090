use Rattle.dl_transform.proofs.Common.{ℕ, ◌<◌, ◌≤◌, get_or}
use Rattle.dl_transform.proofs.bounds.most.Given as goal

abbrev pub invariant-loop-x : goal.invariant-loop-x
invariant-loop-x l = record {
  above : (k : ℕ) → k < l.x-index → get_or l.xs k 0 ≤ l.most;
  least : (m : ℕ) → ((k : ℕ) → get_or l.xs k 0 ≤ m) → l.most ≤ m;
}
