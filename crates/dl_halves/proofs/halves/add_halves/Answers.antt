use Rattle.dl_halves.proofs.Common.{arith, length, map, ap₂, ◌+◌, ◌∙◌, map-set, length-map}
use Rattle.dl_halves.proofs.Written.{fills_more, value_read}
use Rattle.dl_halves.proofs.Same.{same, same_then}
use Rattle.dl_halves.proofs.halves.add_halves.Goals as goal

pub loop-i-preserved : goal.loop-i-preserved
loop-i-preserved g c = record {
  done = rw map-set (fills_more _ (map g.R.Ring.value c.loop-i.out) c.loop-i.i _
      (omega (arith, length-map c.loop-i.out g.R.Ring.value))
      (same_then c.add-sum.ensures.value (same _ _ (ap₂ (λ u v. u + v)
      (value_read g.R.Ring.value c.args.a.now c.loop-i.i _ (omega arith) c.index-a-i.is)
      (value_read g.R.Ring.value c.args.a.now (length c.args.out.now + c.loop-i.i) _ (omega arith) c.index-a-half.is))))
      c.loop-i.invariant.done);
  products = c.add-sum.ensures.products ∙ c.loop-i.invariant.products;
}
