use Rattle.dl_halves.proofs.Common.{◌+◌, ◌≤◌, map, count_below, IsSame, pair_sum}
use Rattle.dl_halves.proofs.Written.{Fills}
use Rattle.dl_halves.proofs.Karatsuba.{column_size}
use Rattle.dl_halves.proofs.halves.block.Given as goal

abbrev pub invariant-loop-s : goal.invariant-loop-s
invariant-loop-s g l = record {
  done : Fills (λ s y. IsSame y (pair_sum (map g.R.Ring.value l.a) (map g.R.Ring.value l.b) s))
      (map g.R.Ring.value l.out) l.s;
  products : g.R.Ring.products l.ring ≤ g.R.Ring.products l.initial.ring + count_below l.s column_size;
}
