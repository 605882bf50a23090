use Rattle.dl_claims.proofs.Common.{ℕ, ◌≡◌, ◌+◌, ◌<◌, length, get_or, min}
use Rattle.dl_claims.proofs.halves.added.Given as goal

abbrev pub invariant-loop-x : goal.invariant-loop-x
invariant-loop-x l = record {
  many : length l.sums.items ≡ l.x;
  each : (k : ℕ) → k < l.x → get_or l.sums.items k 0 ≡ min l.one (get_or l.first k 0 + get_or l.second k 0);
}
