use Rattle.dl_sources.proofs.Common.{ℕ, ◌<◌, ◌≤◌, get_or, length, UnitOfPlan, AreAlike}
use Rattle.dl_sources.proofs.same.are_all_alike.Given as goal

abbrev pub invariant-loop-i : goal.invariant-loop-i
invariant-loop-i l = record {
  some : 1 ≤ l.i;
  alike : (k : ℕ) (d u : UnitOfPlan) → k < l.i → AreAlike (get_or l.units 0 u) (get_or l.units k d);
}
