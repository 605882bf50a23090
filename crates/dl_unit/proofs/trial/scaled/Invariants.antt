use Rattle.dl_unit.proofs.Common.{ℕ, ◌≡◌, ◌*◌, ◌/◌, ◌<◌, length, div_ceil, low_at, high_at}
use Rattle.dl_unit.proofs.trial.scaled.Given as goal

abbrev pub invariant-loop-x : goal.invariant-loop-x
invariant-loop-x g l = record {
  cells : length l.list.items ≡ l.x;
  low : (y : ℕ) → y < l.x → low_at l.list.items y ≡ low_at l.claim y * l.q.num / l.q.den;
  high : (y : ℕ) → y < l.x → high_at l.list.items y ≡ div_ceil (high_at l.claim y * l.q.num) l.q.den;
}
