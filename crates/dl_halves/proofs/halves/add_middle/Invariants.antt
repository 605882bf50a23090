use Rattle.dl_halves.proofs.Common.{◌≡◌, ◌+◌, get_or, map, IsSame}
use Rattle.dl_halves.proofs.Written.{Changed}
use Rattle.dl_halves.proofs.halves.add_middle.Given as goal

abbrev pub invariant-loop-t : goal.invariant-loop-t
invariant-loop-t g l = record {
  changed : Changed (λ t y. IsSame y (get_or (map g.R.Ring.value l.initial.out) (l.half + t) 0 + get_or
      (map g.R.Ring.value l.middle) t 0))
      (map g.R.Ring.value l.initial.out) (map g.R.Ring.value l.out) l.half l.t;
  products : g.R.Ring.products l.ring ≡ g.R.Ring.products l.initial.ring;
}
