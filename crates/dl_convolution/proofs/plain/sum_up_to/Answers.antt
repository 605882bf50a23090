use Rattle.dl_convolution.proofs.Common.{◌+◌, arith, sym, ◌∙◌}
use Rattle.dl_convolution.proofs.Columns.{column_begins, column_cut, column_next, column_fits}
use Rattle.dl_convolution.proofs.plain.sum_up_to.Goals as goal

pub loop-i-init : goal.loop-i-init
loop-i-init c = record {
  within = omega arith;
  sum = sym (column_begins c.args.a.now c.args.b.now c.args.s _ (omega arith));
}

pub overflow_add-sum : goal.overflow_add-sum
overflow_add-sum c =
    let fits = column_fits c.args.a.now c.args.b.now c.args.s c.loop-i.i (c.args.s + 1) _ _ c.requires.fits
    (omega (arith, c.requires.within)) c.loop-i.invariant.sum c.product_of_ends-sum.ensures in
    omega (arith, fits)

pub loop-i-preserved : goal.loop-i-preserved
loop-i-preserved c = record {
  within = omega arith;
  sum = column_next c.args.a.now c.args.b.now c.args.s c.loop-i.i _ _ c.loop-i.invariant.sum
      c.product_of_ends-sum.ensures;
}

pub returns : goal.returns
returns c =
    c.loop-i.invariant.sum
    ∙ column_cut c.args.a.now c.args.b.now c.args.s _ c.args.to c.loop-i.i (omega arith) c.loop-i.invariant.within
    (omega arith)
