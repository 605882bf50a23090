use Rattle.dl_budget.proofs.Common.{ℕ, ◌*◌, ◌^◌, ◌<◌, ◌≤◌}
use Rattle.dl_budget.proofs.steps.halvings.Given as goal

abbrev pub invariant-loop-times : goal.invariant-loop-times
invariant-loop-times l = record {
  inside : l.times ≤ 13;
  more : (i : ℕ) → i < l.times → 2 ^ i * l.mean.den < 2 * l.mean.num;
}
