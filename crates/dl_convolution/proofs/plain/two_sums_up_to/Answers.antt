use Rattle.dl_convolution.proofs.Common.{◌≡◌, ◌+◌, ◌-◌, ◌*◌, arith, ap, sym, ◌∙◌, get_or}
use Rattle.dl_convolution.proofs.Columns.{column_begins, column_cut, column_next, column_fits}
use Rattle.dl_convolution.proofs.plain.two_sums_up_to.Goals as goal

pub loop-i-init : goal.loop-i-init
loop-i-init c = record {
  within = omega arith;
  item = c.item_or_zero-item.ensures;
  first = sym (column_begins c.args.a.now c.args.b.now c.args.s _ (omega arith));
  second = sym (column_begins c.args.a.now c.args.b.now (c.args.s + 1) _ (omega arith));
}

pub overflow_add-first : goal.overflow_add-first
overflow_add-first c =
    let fits = column_fits c.args.a.now c.args.b.now c.args.s c.loop-i.i (c.args.s + 2) _ _ c.requires.fits
    (omega (arith, c.requires.within)) c.loop-i.invariant.first c.product_of_ends-first.ensures in
    omega (arith, fits)

pub overflow_add-second : goal.overflow_add-second
overflow_add-second c =
    let fits = column_fits c.args.a.now c.args.b.now (c.args.s + 1) c.loop-i.i (c.args.s + 2) _ _ c.requires.fits
    (omega (arith, c.requires.within)) c.loop-i.invariant.second
    (c.product_of_ends-second.ensures ∙ ap (λ y. get_or c.args.a.now c.loop-i.i 0 * y) c.loop-i.invariant.item) in
    omega (arith, fits)

pub loop-i-preserved : goal.loop-i-preserved
loop-i-preserved c = record {
  within = omega arith;
  item =
      let place : c.args.s - c.loop-i.i ≡ c.args.s + 1 - (c.loop-i.i + 1) = omega arith in
      ap (λ k. get_or c.args.b.now k 0) place;
  first = column_next c.args.a.now c.args.b.now c.args.s c.loop-i.i _ _ c.loop-i.invariant.first
      c.product_of_ends-first.ensures;
  second = column_next c.args.a.now c.args.b.now (c.args.s + 1) c.loop-i.i _ _ c.loop-i.invariant.second
      (c.product_of_ends-second.ensures ∙ ap (λ y. get_or c.args.a.now c.loop-i.i 0 * y) c.loop-i.invariant.item);
}

pub returns-clause-first : goal.returns-clause-first
returns-clause-first c =
    c.loop-i.invariant.first
    ∙ column_cut c.args.a.now c.args.b.now c.args.s _ c.args.to c.loop-i.i (omega arith) c.loop-i.invariant.within
    (omega arith)

pub returns-clause-second : goal.returns-clause-second
returns-clause-second c =
    c.loop-i.invariant.second
    ∙ column_cut c.args.a.now c.args.b.now (c.args.s + 1) _ c.args.to c.loop-i.i (omega arith)
    c.loop-i.invariant.within (omega arith)
