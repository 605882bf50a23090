use Rattle.dl_recursion.proofs.Common.{◌≡◌, ℕ, ◌-◌, ◌<◌, ◌≤◌, length, take, get_or, sum_by, flat_map, run_parts, contribution, AreWindow, Run, Windows}
use Rattle.dl_recursion.proofs.sums.runs_contribution.Given as goal

abbrev pub invariant-loop-i : goal.invariant-loop-i
invariant-loop-i l = record {
  low : l.low_sum ≡ sum_by (contribution l.before l.after l.low (length l.low)) (flat_map run_parts (take l.i l.runs));
  high : l.high_sum ≡ sum_by (contribution l.before l.after l.high (length l.low)) (flat_map run_parts (take l.i l.runs));
  moved : (k : ℕ) (run : Run) (d : Windows) → k < l.i
      → AreWindow l.low l.high (length l.low) (get_or l.runs k run) (get_or l.windows k d);
  rest : (k : ℕ) (run : Run) (d : Windows) → l.i ≤ k → k < length l.windows
      → AreWindow l.low l.high (length l.low - 1) (get_or l.runs k run) (get_or l.windows k d);
  each_run : length l.windows ≡ length l.runs;
}
