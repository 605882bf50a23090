use Rattle.dl_panjer.proofs.Common.{◌≡◌, take, eqb, length, sum_by, not, low_at, high_at, given}
use Rattle.dl_panjer.proofs.sums.sums_over.Given as goal

abbrev pub invariant-items : goal.invariant-items
invariant-items g l = record {
  low : l.low ≡ sum_by (given (not (eqb g.row.BY_AMOUNT 0)) (low_at l.cells) (length l.cells))
      (take l.item-index l.items);
  high : l.high ≡ sum_by (given (not (eqb g.row.BY_AMOUNT 0)) (high_at l.cells) (length l.cells))
      (take l.item-index l.items);
}
