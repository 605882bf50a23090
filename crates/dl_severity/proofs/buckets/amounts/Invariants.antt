-- The values read so far are made, and none is too far.
use Rattle.dl_severity.proofs.Common.{ℕ, ◌≡◌, ◌<◌, ◌≤◌, get_or, map, take, Fraction, whole, ◌<ℚ◌, buckets}
use Rattle.std.specs.Prelude.{All}
use Rattle.dl_severity.proofs.buckets.amounts.Given as goal

abbrev pub invariant-values : goal.invariant-values
invariant-values l = record {
  same : map whole l.made.items ≡ map (buckets l.fn.bs) (take l.at l.values);
  near : All (λ amount. amount ≤ l.fn.top) l.made.items;
  before : (k : ℕ) (d : Fraction) → k < l.at → ¬ (whole l.fn.top <ℚ buckets l.fn.bs (get_or l.values k d));
}
