use Rattle.dl_panjer.proofs.Common.{suc, ◌≡◌, ◌+◌, ◌*◌, ◌^◌, ◌≤◌, count_below, low_term, high_term}
use Rattle.dl_panjer.proofs.Roundings.{fall}
use Rattle.dl_panjer.proofs.exponential.exponential.Given as goal

abbrev pub invariant-loop-n : goal.invariant-loop-n
invariant-loop-n l = record {
  low_value : l.low_term ≡ low_term l.fn.x l.n;
  high_value : l.high_term ≡ high_term l.fn.x l.n;
  low_partial : l.low ≡ count_below (suc l.n) (low_term l.fn.x);
  high_partial : l.high ≡ count_below (suc l.n) (high_term l.fn.x);
  terms : l.low_term ≤ l.high_term;
  near : l.high_term ≤ l.low_term + 4;
  falls : l.high_term * fall l.n ≤ 2 ^ 63 + 2 * fall l.n;
  small : l.high_term ≤ 2 ^ 63;
  one : 2 ^ 63 ≤ l.low;
  order : l.low ≤ l.high;
  apart : l.high ≤ l.low + 4 * l.n;
  within : l.high ≤ (l.n + 1) * 2 ^ 63;
}
