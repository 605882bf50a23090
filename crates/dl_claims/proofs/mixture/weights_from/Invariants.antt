use Rattle.dl_claims.proofs.Common.{ℕ, ◌≡◌, ◌+◌, ◌<◌, ◌≤◌, length, get_or, All, weight_at, most_weights}
use Rattle.dl_claims.proofs.mixture.weights_from.Given as goal

abbrev pub invariant-loop-i : goal.invariant-loop-i
invariant-loop-i l = record {
  many : length l.weights.items ≡ l.i;
  each : (k : ℕ) → k < l.i → get_or l.weights.items k 0 ≡ weight_at l.table (l.first + k);
  fits : All (λ weight. weight ≤ most_weights) l.weights.items;
}
