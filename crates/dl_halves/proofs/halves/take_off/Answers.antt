use Rattle.dl_halves.proofs.Common.{arith, map, ◌∙◌, map-set, length-map, get_or-set_other}
use Rattle.dl_halves.proofs.Written.{fills_more, value_read}
use Rattle.dl_halves.proofs.Karatsuba.{taken_off}
use Rattle.dl_halves.proofs.halves.take_off.Goals as goal

pub loop-t-preserved : goal.loop-t-preserved
loop-t-preserved g c = record {
  done = rw map-set (fills_more _ (map g.R.Ring.value c.loop-t.middle) c.loop-t.t _
      (omega (arith, length-map c.loop-t.middle g.R.Ring.value))
      (taken_off _ _ _ _ _ _ _ _ c.sub-without_low.ensures.value c.sub-rest.ensures.value
      (value_read g.R.Ring.value c.args.low.now c.loop-t.t _ (omega arith) c.index-low-t.is)
      (value_read g.R.Ring.value c.args.high.now c.loop-t.t _ (omega arith) c.index-high-t.is)
      (value_read g.R.Ring.value c.loop-t.middle c.loop-t.t _ (omega arith) c.index-middle-t.is
      ∙ c.loop-t.invariant.rest c.loop-t.t (omega arith)))
      c.loop-t.invariant.done);
  rest = λ k h. rw map-set (get_or-set_other (map g.R.Ring.value c.loop-t.middle) c.loop-t.t k _ 0 (omega arith)
      ∙ c.loop-t.invariant.rest k (omega arith));
  products = c.sub-rest.ensures.products ∙ c.sub-without_low.ensures.products ∙ c.loop-t.invariant.products;
}
