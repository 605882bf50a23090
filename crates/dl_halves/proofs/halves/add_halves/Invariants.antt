use Rattle.dl_halves.proofs.Common.{◌≡◌, ◌+◌, get_or, map, IsSame}
use Rattle.dl_halves.proofs.Written.{Fills}
use Rattle.dl_halves.proofs.halves.add_halves.Given as goal

abbrev pub invariant-loop-i : goal.invariant-loop-i
invariant-loop-i g l = record {
  done : Fills (λ i y. IsSame y (get_or (map g.R.Ring.value l.a) i 0 + get_or (map g.R.Ring.value l.a) (l.half + i) 0))
      (map g.R.Ring.value l.out) l.i;
  products : g.R.Ring.products l.ring ≡ g.R.Ring.products l.initial.ring;
}
