use Rattle.dl_start.proofs.Common.{◌+◌, ◌*◌, ◌^◌, ◌≤◌, ◌-◌}
use Rattle.dl_start.proofs.powers.times.Given as goal

abbrev pub invariant-loop-k : goal.invariant-loop-k
invariant-loop-k l = record {
  low : l.low * 2 ^ (l.fn.a.exponent + l.fn.b.exponent) ≤ l.fn.a.low * l.fn.b.low * 2 ^ l.exponent;
  high : l.fn.a.high * l.fn.b.high * 2 ^ l.exponent ≤ l.high * 2 ^ (l.fn.a.exponent + l.fn.b.exponent);
  top : l.high ≤ 2 ^ (126 - l.k);
  least : 126 ≤ l.exponent + l.k;
  order : l.low ≤ l.high;
  room : l.exponent ≤ l.fn.a.exponent + l.fn.b.exponent;
}
