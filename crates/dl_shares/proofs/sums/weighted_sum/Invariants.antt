use Rattle.dl_shares.proofs.Common.{◌≡◌, get_or, count_below, sums_of}
use Rattle.dl_shares.proofs.Nested.{running, nested}
use Rattle.dl_shares.proofs.sums.weighted_sum.Given as goal

abbrev pub invariant-loop-z : goal.invariant-loop-z
invariant-loop-z l = record {
  end : l.end ≡ count_below l.z (λ z. get_or l.others z 0);
  so_far : l.so_far ≡ running l.q (λ y. get_or l.own y 0) (sums_of (λ z. get_or l.others z 0)) l.z;
  sum : l.sum ≡ nested l.q (λ y. get_or l.own y 0) (sums_of (λ z. get_or l.others z 0)) l.z;
}
