use Rattle.dl_halves.proofs.Common.{◌+◌, ◌-◌, ◌*◌, ◌≤◌, get_or, map, count_below, IsSame}
use Rattle.dl_halves.proofs.halves.column.Given as goal

abbrev pub invariant-loop-i : goal.invariant-loop-i
invariant-loop-i g l = record {
  value : IsSame (g.R.Ring.value l.sum) (count_below l.i
      (λ i. get_or (map g.R.Ring.value l.a) i 0 * get_or (map g.R.Ring.value l.b) (l.s - i) 0));
  products : g.R.Ring.products l.ring + l.first ≤ g.R.Ring.products l.initial.ring + l.i;
}
