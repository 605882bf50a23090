use Rattle.dl_totals.proofs.Common.{ℕ, ◌≡◌, ◌<◌, ◌≤◌, [], get_or, length}
use Rattle.dl_totals.proofs.runs.alike.Given as goal

abbrev pub invariant-loop-i : goal.invariant-loop-i
invariant-loop-i g l = record {
  some : 1 ≤ l.i;
  inside : l.i ≤ length l.units;
  same : (k : ℕ) → k < l.i → get_or l.units k [] ≡ get_or l.units 0 [];
}
