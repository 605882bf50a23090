use Rattle.dl_recursion.proofs.Common.{◌≡◌, ℕ, ◌+◌, sum_by, Part, in_a_row, all_parts, ArePositiveAmounts}
use Rattle.dl_recursion.proofs.parts.add.Given as goal

abbrev pub invariant-each : goal.invariant-each
invariant-each l = record {
  sound : ArePositiveAmounts l.amounts;
  parts : (f : Part → ℕ)
      → sum_by f (all_parts l.amounts) ≡ sum_by f (all_parts l.initial.amounts) + sum_by f
      (in_a_row l.run.amount l.k l.run.weight);
}
