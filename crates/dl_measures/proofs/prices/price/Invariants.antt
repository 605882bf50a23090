use Rattle.dl_measures.proofs.Common.{take, length, ◌^◌, All, None, low_at, low_cdf, IsFirstFound}
use Rattle.dl_measures.proofs.PriceSums.{IsSumOf}
use Rattle.dl_measures.proofs.prices.price.Given as goal

abbrev pub invariant-loop-term : goal.invariant-loop-term
invariant-loop-term g l = record {
  sum : IsSumOf l.g l.mean l.terms l.term-index l.sum.lo l.sum.hi;
  found : All (λ t. IsFirstFound (low_cdf (2 ^ g.row.B) (low_at l.g)) t.p (length l.g) None → ⊥)
      (take l.term-index l.terms);
}
