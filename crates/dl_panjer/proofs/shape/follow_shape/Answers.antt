use Rattle.dl_panjer.proofs.Common.{◌≡◌, ◌-◌, ◌≤◌, ◌^◌, [], ◌∷◌, length, arith, refl, ◌∙◌, Iv, low_at, high_at, low_at_front, high_at_front, low_at_pushed, high_at_pushed, All-nil, All-push, low_next_of_shape, high_next_of_shape}
use Rattle.dl_panjer.proofs.Steps.{follows_pushed}
use Rattle.dl_panjer.proofs.Shapes.{low_shape_same, high_shape_same}
use Rattle.dl_panjer.proofs.shape.follow_shape.Goals as goal

pub loop-s-init : goal.loop-s-init
loop-s-init g c = rw (c.in_ok-push.ensures.items, c.in_ok-list.ensures.items) (record {
  cells = refl;
  small = All-push (λ (cell : Iv g.row.B). cell.hi ≤ 2 ^ g.row.B) [] c.args.start (All-nil _) c.requires.small;
  start_low = low_at_pushed [] c.args.start 0 refl;
  start_high = high_at_pushed [] c.args.start 0 refl;
  follows = record { low = λ s inside. absurd (omega arith); high = λ s inside. absurd (omega arith) };
})

pub loop-s-preserved : goal.loop-s-preserved
loop-s-preserved g c =
    let i = c.loop-s.invariant in
    let list = c.loop-s.list.items in
    let cell = c.next_of_shape-cell.result in
    let some : 1 ≤ c.loop-s.s = omega arith in
    let low : cell.lo ≡ low_next_of_shape c.args.items.now c.args.total c.args.t c.args.rate (low_at list)
    (length list - 1) =
    rw (← c.deref.ensures.value) c.next_of_shape-cell.ensures.low in
    let high : cell.hi ≡ high_next_of_shape (2 ^ g.row.B) c.args.items.now c.args.total c.args.t c.args.rate (high_at list)
    (length list - 1) =
    rw (← c.deref.ensures.value) c.next_of_shape-cell.ensures.high in
    rw c.in_ok-push-2.ensures.items (record {
      cells = grind arith;
      small = All-push (λ (x : Iv g.row.B). x.hi ≤ 2 ^ g.row.B) list cell i.small (omega (arith, high));
      start_low = low_at_front list (cell ∷ []) 0 (omega (arith, i.cells, some)) ∙ i.start_low;
      start_high = high_at_front list (cell ∷ []) 0 (omega (arith, i.cells, some)) ∙ i.start_high;
      follows =
          follows_pushed (low_next_of_shape c.args.items.now c.args.total c.args.t c.args.rate)
          (high_next_of_shape (2 ^ g.row.B) c.args.items.now c.args.total c.args.t c.args.rate)
          (low_shape_same c.args.items.now c.args.total c.args.t c.args.rate)
          (λ f h s same. high_shape_same c.args.items.now c.args.total c.args.t c.args.rate f h s same (2 ^ g.row.B)) list cell c.loop-s.s i.cells some
          i.follows low high;
    })

pub returns-clause-start_low : goal.returns-clause-start_low
returns-clause-start_low g c = c.loop-s.invariant.start_low

pub returns-clause-start_high : goal.returns-clause-start_high
returns-clause-start_high g c = c.loop-s.invariant.start_high

pub returns-clause-small : goal.returns-clause-small
returns-clause-small g c = c.loop-s.invariant.small

pub returns-clause-follows : goal.returns-clause-follows
returns-clause-follows g c = record {
  low = λ s inside. c.loop-s.invariant.follows.low s (omega arith);
  high = λ s inside. c.loop-s.invariant.follows.high s (omega arith);
}
