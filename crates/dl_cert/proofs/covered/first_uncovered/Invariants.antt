use Rattle.dl_cert.proofs.Common.{ℕ, ◌<◌, ◌≤◌, get_or, UnitOfPlan, IsCoveredUnit, standard_units}
use Rattle.dl_cert.proofs.covered.first_uncovered.Given as goal

abbrev pub invariant-loop-i : goal.invariant-loop-i
invariant-loop-i l = record {
  few : l.i ≤ standard_units;
  covered : (k : ℕ) (d : UnitOfPlan) → k < l.i → IsCoveredUnit (get_or l.units k d);
}
