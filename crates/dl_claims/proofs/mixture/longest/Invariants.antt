use Rattle.dl_claims.proofs.Common.{ℕ, ◌<◌, ◌≤◌, List, length, get_or, All, Iv}
use Rattle.dl_claims.proofs.mixture.longest.Given as goal

abbrev pub invariant-loop-grid : goal.invariant-loop-grid
invariant-loop-grid g l = record {
  some : 1 ≤ l.most;
  within : (k : ℕ) (d : List (Iv g.row.B)) → k < l.grid-index → length (get_or l.grids k d) ≤ l.most;
  least : (n : ℕ) → 1 ≤ n → All (λ t. length t ≤ n) l.grids → l.most ≤ n;
}
