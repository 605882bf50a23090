use Rattle.dl_panjer.proofs.Common.{◌≡◌, ◌^◌, ◌≤◌, eqb, length, not, All, low_at, high_at, Follows, low_next, high_next}
use Rattle.dl_panjer.proofs.follow.follow.Given as goal

abbrev pub invariant-loop-s : goal.invariant-loop-s
invariant-loop-s g l = record {
  cells : length l.list.items ≡ l.s;
  small : All (λ cell. cell.hi ≤ 2 ^ g.row.B) l.list.items;
  start_low : low_at l.list.items 0 ≡ l.fn.start.lo;
  start_high : high_at l.list.items 0 ≡ l.fn.start.hi;
  follows : Follows (low_next (not (eqb g.row.BY_AMOUNT 0)) l.items l.total l.rate)
      (high_next (2 ^ g.row.B) (not (eqb g.row.BY_AMOUNT 0)) l.items l.total l.rate) (low_at l.list.items)
      (high_at l.list.items) l.s;
}
