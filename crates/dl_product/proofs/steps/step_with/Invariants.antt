use Rattle.dl_product.proofs.Common.{ℕ, ◌≡◌, ◌<◌, get_or, ◌%◌}
use Prim.Native.Nat.{◌∣◌}
use Rattle.dl_product.proofs.steps.step_with.Given as goal

abbrev pub invariant-loop-i : goal.invariant-loop-i
invariant-loop-i l = record {
  divides : l.step ∣ l.fn.step;
  apart : (i : ℕ) → i < l.i → 0 < i % l.step → get_or l.xs i 0 ≡ 0;
}
