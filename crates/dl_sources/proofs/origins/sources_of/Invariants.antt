-- The grids and what the joint means of the units so far come from; the sums that are left.
use Rattle.dl_sources.proofs.Common.{ℕ, [], ◌≡◌, ◌<◌, length, get_or, spread, None, IsSome, drop, Nowhere, AreGridsFor, IsBeside, IsFoundOf}
use Rattle.dl_sources.proofs.origins.sources_of.Given as goal

abbrev pub invariant-loop-i : goal.invariant-loop-i
invariant-loop-i g l = record {
  grids : AreGridsFor {B = g.row.B} l.of.plan.now l.i l.grids.items;
  apart : l.apart ≡ spread (get_or l.grids.items 0 []);
  others : l.others.items ≡ drop l.i l.fn.sums.others.items;
  as_many : length l.origins.items ≡ l.i;
  each : (k : ℕ) → k < l.i → IsFoundOf {B = g.row.B} l.of.plan.now (get_or l.of.budgets.now.of_units.items k None)
      l.grids.items k (get_or l.origins.items k Nowhere);
  beside : (k : ℕ) → IsBeside {B = g.row.B} (get_or l.origins.items k Nowhere)
      → IsSome (get_or l.fn.sums.others.items k None);
}
