use Rattle.dl_halves.proofs.Common.{arith, map, ap₂, ◌+◌, ◌∙◌, map-set, length-map}
use Rattle.dl_halves.proofs.Written.{changed_more, value_read}
use Rattle.dl_halves.proofs.Same.{same, same_then}
use Rattle.dl_halves.proofs.halves.add_middle.Goals as goal

pub loop-t-preserved : goal.loop-t-preserved
loop-t-preserved g c = record {
  changed = rw map-set (changed_more _ (map g.R.Ring.value c.args.out.now)
      (map g.R.Ring.value c.loop-t.out) c.args.half c.loop-t.t _
      (omega (arith, length-map c.loop-t.out g.R.Ring.value))
      (same_then c.add-sum.ensures.value (same _ _ (ap₂ (λ u v. u + v)
      (value_read g.R.Ring.value c.loop-t.out (c.args.half + c.loop-t.t) _ (omega arith) c.index-out-half.is
      ∙ c.loop-t.invariant.changed.last (c.args.half + c.loop-t.t) (omega arith))
      (value_read g.R.Ring.value c.args.middle.now c.loop-t.t _ (omega arith) c.index-middle-t.is))))
      c.loop-t.invariant.changed);
  products = c.add-sum.ensures.products ∙ c.loop-t.invariant.products;
}
