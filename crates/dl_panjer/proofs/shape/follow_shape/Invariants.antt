use Rattle.dl_panjer.proofs.Common.{◌≡◌, ◌^◌, ◌≤◌, length, All, low_at, high_at, Follows, low_next_of_shape, high_next_of_shape}
use Rattle.dl_panjer.proofs.shape.follow_shape.Given as goal

abbrev pub invariant-loop-s : goal.invariant-loop-s
invariant-loop-s g l = record {
  cells : length l.list.items ≡ l.s;
  small : All (λ cell. cell.hi ≤ 2 ^ g.row.B) l.list.items;
  start_low : low_at l.list.items 0 ≡ l.fn.start.lo;
  start_high : high_at l.list.items 0 ≡ l.fn.start.hi;
  follows : Follows (low_next_of_shape l.items l.total l.t l.rate)
      (high_next_of_shape (2 ^ g.row.B) l.items l.total l.t l.rate) (low_at l.list.items)
      (high_at l.list.items) l.s;
}
