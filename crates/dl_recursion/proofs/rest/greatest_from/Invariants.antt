use Rattle.dl_recursion.proofs.Common.{ℕ, ◌^◌, ◌<◌, ◌≤◌, get_or}
use Rattle.dl_recursion.proofs.rest.greatest_from.Given as goal

abbrev pub invariant-loop-i : goal.invariant-loop-i
invariant-loop-i l = record {
  small : l.greatest ≤ 2 ^ 62;
  below : (k : ℕ) → l.from ≤ k → k < l.i → get_or l.ends k 0 ≤ l.greatest;
}
