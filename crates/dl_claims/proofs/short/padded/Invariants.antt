use Rattle.dl_claims.proofs.Common.{ℕ, ◌≡◌, ◌<◌, length, get_or}
use Rattle.dl_claims.proofs.short.padded.Given as goal

abbrev pub invariant-loop-x : goal.invariant-loop-x
invariant-loop-x l = record {
  many : length l.list.items ≡ l.x;
  each : (k : ℕ) → k < l.x → get_or l.list.items k 0 ≡ get_or l.ends k 0;
}
