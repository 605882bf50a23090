use Rattle.dl_totals.proofs.Common.{◌≡◌, ◌<◌, ◌≤◌, ◌↔◌, length, get_or, None, Some, false, IsTrue, IsSome, IfSome, IsSumOfPart, IsSumWithout, ℕ}
use Rattle.dl_model.specs.Measures.{without}
use Rattle.dl_totals.proofs.shared.others_where_asked.Given as goal

abbrev pub invariant-loop-i : goal.invariant-loop-i
invariant-loop-i g l = record {
  inside : l.i ≤ length l.units;
  many : length l.sums.items ≡ length l.units;
  there : (p : ℕ) → p < l.i → IsSome (get_or l.sums.items p None) ↔ IsTrue (get_or l.asked p false);
  each : (p : ℕ) → p < l.i → IfSome (get_or l.sums.items p None) (IsSumWithout l.cells l.units p);
  later : (p : ℕ) → l.i ≤ p → p < length l.units
      → IfSome (get_or l.sums.items p None) (λ h. IsSumOfPart l.cells l.units (λ us. without us p) (Some h));
}
