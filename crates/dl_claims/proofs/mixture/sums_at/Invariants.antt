use Rattle.dl_claims.proofs.Common.{◌≡◌, ◌*◌, ◌^◌, ◌≤◌, [], get_or, low_at, high_at, count_below}
use Rattle.dl_claims.proofs.mixture.sums_at.Given as goal

abbrev pub invariant-loop-i : goal.invariant-loop-i
invariant-loop-i g l = record {
  low : l.low ≡ count_below l.i (λ i. get_or l.weights i 0 * low_at (get_or l.grids i []) l.x);
  high : l.high ≡ count_below l.i (λ i. get_or l.weights i 0 * high_at (get_or l.grids i []) l.x);
  small_low : l.low ≤ l.i * 2 ^ 96;
  small : l.high ≤ l.i * 2 ^ 96;
}
