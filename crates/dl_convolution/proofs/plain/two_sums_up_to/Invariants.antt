use Rattle.dl_convolution.proofs.Common.{◌≡◌, ◌+◌, ◌-◌, ◌≤◌, get_or, max}
use Rattle.dl_convolution.proofs.Columns.{column}
use Rattle.dl_convolution.proofs.plain.two_sums_up_to.Given as goal

abbrev pub invariant-loop-i : goal.invariant-loop-i
invariant-loop-i l = record {
  within : l.i ≤ max l.to l.from;
  item : l.item ≡ get_or l.b (l.s + 1 - l.i) 0;
  first : l.first ≡ column l.a l.b l.s l.i;
  second : l.second ≡ column l.a l.b (l.s + 1) l.i;
}
