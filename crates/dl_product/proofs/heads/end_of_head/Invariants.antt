use Rattle.dl_product.proofs.Common.{ℕ, ◌≡◌, ◌+◌, ◌≤◌, length, get_or}
use Rattle.dl_product.proofs.heads.end_of_head.Given as goal

abbrev pub invariant-loop-i : goal.invariant-loop-i
invariant-loop-i l = record {
  low : (k : ℕ) → length l.highs ≤ k + l.i → get_or l.lows k 0 ≡ 0;
  high : (k : ℕ) → length l.highs ≤ k + l.i → get_or l.highs k l.rest ≡ l.rest;
}
