use Rattle.dl_totals.proofs.Common.{◌≡◌, ◌<◌, ◌≤◌, length, get_or, ℕ, nat_lt, nat_eq, cond, sum_by}
use Rattle.dl_totals.proofs.tree.first_places.Given as goal

abbrev pub invariant-loop-at : goal.invariant-loop-at
invariant-loop-at l = record {
  inside : l.at ≤ l.many;
  many : length l.roots.items ≡ l.at;
  each : (i d : ℕ) → i < l.at → get_or l.roots.items i d ≡ i;
  once : (i : ℕ) → sum_by (λ p. cond (nat_eq i p) 1 0) l.roots.items ≡ cond (nat_lt i l.at) 1 0;
}
