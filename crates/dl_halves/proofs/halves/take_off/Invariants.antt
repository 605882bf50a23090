use Rattle.dl_halves.proofs.Common.{◌≡◌, ◌+◌, ◌≤◌, ℕ, get_or, map, IsSame}
use Rattle.dl_halves.proofs.Written.{Fills}
use Rattle.dl_halves.proofs.halves.take_off.Given as goal

abbrev pub invariant-loop-t : goal.invariant-loop-t
invariant-loop-t g l = record {
  done : Fills (λ t y. IsSame (y + (get_or (map g.R.Ring.value l.low) t 0 + get_or (map g.R.Ring.value l.high) t 0))
      (get_or (map g.R.Ring.value l.initial.middle) t 0)) (map g.R.Ring.value l.middle) l.t;
  rest : (k : ℕ) → l.t ≤ k → get_or (map g.R.Ring.value l.middle) k 0
      ≡ get_or (map g.R.Ring.value l.initial.middle) k 0;
  products : g.R.Ring.products l.ring ≡ g.R.Ring.products l.initial.ring;
}
