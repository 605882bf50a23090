use Rattle.dl_product.proofs.Common.{◌≡◌, ◌+◌, ◌-◌, ◌*◌, ◌<◌, ◌∙◌, ap, ap₂, arith, get_or, length, refl, sym, times_nothing, ◌^◌, length-set, count_below, set_done, set_rest}
use Rattle.dl_product.proofs.Rests.{factor_fits, next_fits, next_sum, none_yet}
use Rattle.dl_product.proofs.behind.with_rest.Goals as goal

pub loop-s-init : goal.loop-s-init
loop-s-init c = record {
  sum = sym (none_yet c.args.from c.args.from (λ k. get_or c.args.items.now k 0) (omega arith));
  long = refl;
  done = λ k b. omega (arith, times_nothing c.args.rest _ (none_yet (k + 1) c.args.from (λ k. get_or c.args.items.now k 0) (omega (arith, b))));
  left = λ k past. refl;
}

room : (c : goal.After-item_or_zero-sum) → get_or c.loop-s.out c.loop-s.s 0
    + c.args.rest * (c.loop-s.sum + c.item_or_zero-sum.result) < 2 ^ 128
room c = omega (
  arith,
  next_fits c.args.rest c.args.from c.loop-s.s c.loop-s.sum c.item_or_zero-sum.result (get_or c.loop-s.out c.loop-s.s 0)
      (get_or c.args.sums.items c.loop-s.s 0) (2 ^ 128) (λ k. get_or c.args.items.now k 0) c.loop-s.auto.s
      c.loop-s.invariant.sum c.item_or_zero-sum.ensures
      (c.loop-s.invariant.left c.loop-s.s (omega arith) ∙ ap (λ xs. get_or xs c.loop-s.s 0) c.as_mut_slice-out.ensures.value)
      (c.requires c.loop-s.s (omega (arith, c.loop-s-test.true, ap length c.as_mut_slice-out.ensures.value))),
)

pub overflow_add-sum : goal.overflow_add-sum
overflow_add-sum c = omega (
  arith,
  factor_fits c.args.rest (c.loop-s.sum + c.item_or_zero-sum.result) (get_or c.loop-s.out c.loop-s.s 0) (2 ^ 128)
      c.if-rest-eq0.false (room c),
)

pub overflow_mul-out : goal.overflow_mul-out
overflow_mul-out c = omega (arith, room c)

pub overflow_add-out : goal.overflow_add-out
overflow_add-out c = omega (
  arith,
  next_fits c.args.rest c.args.from c.loop-s.s c.loop-s.sum c.item_or_zero-sum.result (get_or c.loop-s.out c.loop-s.s 0)
      (get_or c.args.sums.items c.loop-s.s 0) (2 ^ 128) (λ k. get_or c.args.items.now k 0) c.loop-s.auto.s
      c.loop-s.invariant.sum c.item_or_zero-sum.ensures
      (c.loop-s.invariant.left c.loop-s.s (omega arith) ∙ ap (λ xs. get_or xs c.loop-s.s 0) c.as_mut_slice-out.ensures.value)
      (c.requires c.loop-s.s (omega (arith, c.loop-s-test.true, ap length c.as_mut_slice-out.ensures.value))),
)

pub loop-s-preserved : goal.loop-s-preserved
loop-s-preserved c =
    let s = c.loop-s.s in
    let i = c.loop-s.invariant in
    let sum = next_sum c.args.from s c.loop-s.sum c.item_or_zero-sum.result (λ k. get_or c.args.items.now k 0)
    c.loop-s.auto.s i.sum c.item_or_zero-sum.ensures in
    let item = get_or c.loop-s.out s 0 + c.args.rest * (c.loop-s.sum + c.item_or_zero-sum.result) in
    record {
      sum = sum;
      long = length-set c.loop-s.out s item ∙ i.long;
      done = set_done (λ k it. it ≡ get_or c.as_mut_slice-out.result.now k 0
          + c.args.rest * count_below (k + 1 - c.args.from) (λ j. get_or c.args.items.now j 0)) c.loop-s.out s item
          (omega (arith, c.loop-s-test.true, i.long)) i.done
          (ap₂ (λ x y. x + c.args.rest * y) (i.left s (omega arith)) sum);
      left = set_rest c.loop-s.out c.as_mut_slice-out.result.now s item i.left;
    }
