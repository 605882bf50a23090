-- A value that is near is made; the first that is not ends it.
use Rattle.dl_severity.proofs.Common.{ℕ, ◌<◌, ◌≤◌, sym, subst, arith, All-push, whole, ◌<ℚ◌, buckets, ap, map, take_all, ◌∙◌}
use Rattle.dl_severity.proofs.Whole.{whole_lt, lt_whole, more_amounts, more_before, at_index}
use Rattle.dl_severity.proofs.buckets.amounts.Goals as goal

pub returns-then-amount-top : goal.returns-then-amount-top
returns-then-amount-top c =
    let far : whole c.args.top <ℚ buckets c.args.bs c.index-values-at.result =
    subst (λ y. whole c.args.top <ℚ y) (sym c.quotient-amount.ensures)
    (whole_lt c.args.top c.quotient-amount.result c.if-amount-top.true) in (
      c.in_default.ensures.none,
      record {
        inside = c.values-test.true;
        here = at_index
            (λ x. whole c.args.top <ℚ buckets c.args.bs x) c.args.values.now c.values.at
            c.index-values-at.result c.values-test.true c.index-values-at.is far;
        before = c.values.invariant.before;
      },
    )

pub values-preserved : goal.values-preserved
values-preserved c = record {
  same = more_amounts c.args.bs c.args.values.now c.values.at c.quotient-amount.result c.index-values-at.result
      c.values.made.items _ c.values-test.true c.index-values-at.is c.values.invariant.same c.in_ok-push_item.ensures
      c.quotient-amount.ensures;
  near = rw c.in_ok-push_item.ensures (All-push
      (λ amount. amount ≤ c.args.top) c.values.made.items c.quotient-amount.result c.values.invariant.near
      c.if-amount-top.false);
  before =
      more_before
      (λ x. ¬ (whole c.args.top <ℚ buckets c.args.bs x)) c.args.values.now c.values.at
      c.index-values-at.result c.values-test.true c.index-values-at.is c.values.invariant.before
      (λ far. absurd (not_lt (lt_whole c.args.top c.quotient-amount.result
      (subst (λ y. whole c.args.top <ℚ y) c.quotient-amount.ensures far)) c.if-amount-top.false));
}
  where
    not_lt : {m n : ℕ} → m < n → n ≤ m → ⊥
    not_lt p q = omega (arith, p, q)

pub returns : goal.returns
returns c = record {
  same = c.values.invariant.same ∙ ap (map (buckets c.args.bs)) (take_all c.values.at c.args.values.now c.values-test.false);
  near = c.values.invariant.near;
}
