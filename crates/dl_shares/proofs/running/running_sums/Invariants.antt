-- The items so far.
use Rattle.dl_shares.proofs.Common.{◌≡◌, ◌≤◌, take, low_at, amounts_to, sums_of}
use Rattle.dl_shares.proofs.running.running_sums.Given as goal

abbrev pub invariant-items : goal.invariant-items
invariant-items g l = record {
  place : l.place ≤ l.q;
  sum : l.sum ≡ sums_of (low_at l.total) l.place;
  low : l.low ≡ amounts_to l.q (sums_of (low_at l.total)) (take l.item-index l.items);
  parts : l.all ≡ amounts_to l.q (λ _. 1) (take l.item-index l.items);
}
