-- The units so far.
use Rattle.dl_sources.proofs.Common.{ℕ, ◌≡◌, ◌<◌, length, get_or, false, IsTrue, None, IsSome}
use Rattle.dl_sources.proofs.totals.beside.Given as goal

abbrev pub invariant-loop-i : goal.invariant-loop-i
invariant-loop-i l = record {
  as_many : length l.asked.items ≡ l.i;
  all : (k : ℕ) → k < l.i → IsTrue l.all → IsSome (get_or l.budgets.of_units.items k None)
      → IsTrue (get_or l.asked.items k false);
}
