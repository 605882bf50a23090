-- The items so far.
use Rattle.dl_shares.proofs.Common.{◌≡◌, take, low_at, high_at, amounts_to}
use Rattle.dl_shares.proofs.claims.cell_sums.Given as goal

abbrev pub invariant-items : goal.invariant-items
invariant-items g l = record {
  low : l.low ≡ amounts_to l.q (low_at l.total) (take l.item-index l.items);
  high : l.high ≡ amounts_to l.q (high_at l.total) (take l.item-index l.items);
}
