use Rattle.dl_transform.proofs.Common.{ℕ, ◌<◌, ◌≤◌, length, get_or, high_at}
use Rattle.dl_transform.proofs.bounds.greatest_high.Given as goal

abbrev pub invariant-loop-k : goal.invariant-loop-k
invariant-loop-k l = record {
  above : (k : ℕ) → k < l.k → high_at l.a.lows.now l.a.widths.now k ≤ l.greatest;
  past : (k : ℕ) → length l.a.widths.now ≤ k → get_or l.a.lows.now k 0 ≤ l.greatest;
  least : (m : ℕ) → ((k : ℕ) → high_at l.a.lows.now l.a.widths.now k ≤ m) → l.greatest ≤ m;
}
