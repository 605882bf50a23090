use Rattle.dl_iv.proofs.Common.{◌≡◌, sum_by, take}
use Rattle.dl_iv.proofs.interval.Iv.sum.Given as goal

abbrev pub invariant-loop-item : goal.invariant-loop-item
invariant-loop-item g l = record {
  low : l.total.lo ≡ sum_by (λ i. i.lo) (take l.item-index l.items);
  high : l.total.hi ≡ sum_by (λ i. i.hi) (take l.item-index l.items);
}
