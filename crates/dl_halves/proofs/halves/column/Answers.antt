use Rattle.dl_halves.proofs.Common.{arith, map, ◌-◌, sym, ◌∙◌, length-map}
use Rattle.dl_halves.proofs.Written.{value_read}
use Rattle.dl_halves.proofs.Same.{column_more, same, same_then}
use Rattle.dl_convolution.proofs.Columns.{column_begins, column_ends}
use Rattle.dl_halves.proofs.halves.column.Goals as goal

pub loop-i-init : goal.loop-i-init
loop-i-init g c = record {
  value = same _ _ (c.zero-sum.ensures.value
      ∙ sym (column_begins (map g.R.Ring.value c.args.a.now)
      (map g.R.Ring.value c.args.b.now) c.args.s c.saturating_sub-first.result
      (omega (arith, length-map c.args.b.now g.R.Ring.value))));
  products = omega (arith, c.zero-sum.ensures.products);
}

pub loop-i-preserved : goal.loop-i-preserved
loop-i-preserved g c = record {
  value = column_more (map g.R.Ring.value c.args.a.now)
      (map g.R.Ring.value c.args.b.now) c.args.s c.loop-i.i _ _ _ _ _ c.loop-i.invariant.value
      (value_read g.R.Ring.value c.args.a.now c.loop-i.i _ (omega arith) c.index-a-i.is)
      (value_read g.R.Ring.value c.args.b.now (c.args.s - c.loop-i.i) _ (omega arith) c.index-b-s.is)
      c.mul-product.ensures.value c.add-sum.ensures.value;
  products = omega (arith, c.add-sum.ensures.products, c.mul-product.ensures.products);
}

pub returns-clause-value : goal.returns-clause-value
returns-clause-value g c =
    same_then c.loop-i.invariant.value
    (same _ _ (column_ends (map g.R.Ring.value c.args.a.now) (map g.R.Ring.value c.args.b.now) c.args.s c.loop-i.i
    (omega arith) (omega (arith, length-map c.args.a.now g.R.Ring.value))))
