use Rattle.dl_start.proofs.Common.{◌≡◌, ◌+◌, ◌*◌, ◌^◌, ◌≤◌, min}
use Rattle.dl_start.proofs.shape.fine_start.Given as goal

abbrev pub invariant-loop-k : goal.invariant-loop-k
invariant-loop-k l = record {
  raised : l.part * 2 ^ 63 ≡ l.fn.rest * 2 ^ l.exponent;
  within : l.part ≤ l.fn.num + l.fn.rest;
  grown : min (l.fn.num + l.fn.rest) (l.fn.rest * 2 ^ l.k) ≤ l.part + l.part;
  least : 63 ≤ l.exponent;
  most : l.exponent ≤ 63 + l.k;
}
