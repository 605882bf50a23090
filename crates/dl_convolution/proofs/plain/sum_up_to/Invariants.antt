use Rattle.dl_convolution.proofs.Common.{◌≡◌, ◌≤◌, max}
use Rattle.dl_convolution.proofs.Columns.{column}
use Rattle.dl_convolution.proofs.plain.sum_up_to.Given as goal

abbrev pub invariant-loop-i : goal.invariant-loop-i
invariant-loop-i l = record {
  within : l.i ≤ max l.to l.from;
  sum : l.sum ≡ column l.a l.b l.s l.i;
}
