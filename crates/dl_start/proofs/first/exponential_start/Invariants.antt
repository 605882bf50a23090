use Rattle.dl_start.proofs.Common.{◌+◌, ◌*◌, ◌^◌, ◌≤◌, whole, ◌over◌, ◌*ℚ◌, ◌≤ℚ◌, sum_to, poisson}
use Rattle.dl_start.proofs.first.exponential_start.Given as goal

abbrev pub invariant-loop-n : goal.invariant-loop-n
invariant-loop-n l = record {
  low_term : whole l.low_term ≤ℚ whole (2 ^ 63) *ℚ poisson (l.fn.num over l.fn.den) l.n;
  high_term : whole (2 ^ 63) *ℚ poisson (l.fn.num over l.fn.den) l.n ≤ℚ whole l.high_term;
  low : whole l.low ≤ℚ whole (2 ^ 63) *ℚ sum_to l.n (poisson (l.fn.num over l.fn.den));
  high : whole (2 ^ 63) *ℚ sum_to l.n (poisson (l.fn.num over l.fn.den)) ≤ℚ whole l.high;
  terms : l.low_term ≤ l.high_term;
  small : l.high_term ≤ 2 ^ 63;
  order : l.low ≤ l.high;
  start : 2 ^ 63 ≤ l.low;
  bound : l.high ≤ (l.n + 1) * 2 ^ 63;
}
