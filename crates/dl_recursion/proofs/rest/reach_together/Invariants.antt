use Rattle.dl_recursion.proofs.Common.{◌≡◌, ◌≤◌, take, flat_map, All, part_sum, run_parts}
use Rattle.dl_recursion.proofs.rest.reach_together.Given as goal

abbrev pub invariant-loop-run : goal.invariant-loop-run
invariant-loop-run l = record {
  amount : All (λ p. p.amount ≤ l.amount) (flat_map run_parts (take l.run-index l.runs));
  weight : l.weight ≡ part_sum (flat_map run_parts (take l.run-index l.runs));
}
