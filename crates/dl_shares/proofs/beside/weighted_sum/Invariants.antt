use Rattle.dl_shares.proofs.Common.{◌≡◌, get_or}
use Rattle.dl_shares.proofs.Nested.{running, nested}
use Rattle.dl_shares.proofs.beside.weighted_sum.Given as goal

abbrev pub invariant-loop-z : goal.invariant-loop-z
invariant-loop-z l = record {
  so_far : l.so_far ≡ running l.x (λ y. get_or l.own y 0) (λ z. get_or l.other z 0) l.z;
  sum : l.sum ≡ nested l.x (λ y. get_or l.own y 0) (λ z. get_or l.other z 0) l.z;
}
