use Rattle.dl_recursion.proofs.Common.{◌≡◌, ℕ, ◌+◌, ◌-◌, ◌<◌, ◌≤◌, get_or, length, Fraction, run_parts, EncloseScaled}
use Rattle.dl_recursion.specs.Geometric.{IsRaisedBy}
use Rattle.dl_recursion.specs.Passes.{window_sum, IsFactor}
use Rattle.dl_recursion.proofs.passes.pass.Given as goal

abbrev pub invariant-cells : goal.invariant-cells
invariant-cells l = record {
  alike : length l.high ≡ length l.low;
  low_small : (k : ℕ) → get_or l.low k 0 ≤ l.most;
  high_small : (k : ℕ) → get_or l.high k 0 ≤ l.most;
  low_last : l.low_end ≡ get_or l.low (l.s - 1) 0;
  high_last : l.high_end ≡ get_or l.high (l.s - 1) 0;
  low_window : l.low_sum ≡ window_sum l.low (l.s - 1) l.run;
  high_window : l.high_sum ≡ window_sum l.high (l.s - 1) l.run;
  low_left : (k : ℕ) → l.s ≤ k → get_or l.low k 0 ≡ get_or l.fn.low k 0;
  high_left : (k : ℕ) → l.s ≤ k → get_or l.high k 0 ≡ get_or l.fn.high k 0;
  round : (q e : ℕ) (u r : ℕ → Fraction) → 0 < q → IsFactor l.run.weight q l.factor → IsRaisedBy (run_parts l.run) q u r
      → EncloseScaled u e (length l.fn.low) l.fn.low l.fn.high → EncloseScaled r (e + l.down) l.s l.low l.high;
}
