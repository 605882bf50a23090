use Rattle.dl_measures.proofs.Common.{◌+◌, ◌-◌, ◌^◌, ◌≤◌, arith, length, refl, subst, sym, All, None, All-more, take_all, whole, ◌<ℚ◌, low_at, spread, low_cdf, IsFirstFound}
use Rattle.dl_measures.proofs.PriceSums.{start, step, weight_within, sum_small, all_hold, all_least, all_narrow}
use Rattle.dl_measures.proofs.Parts.{price_rises}
use Rattle.dl_measures.proofs.prices.price.Goals as goal

pub loop-term-init : goal.loop-term-init
loop-term-init g c = record {
  sum = rw (c.point-sum.ensures.low, c.point-sum.ensures.high) (start c.args.g.now c.args.mean c.args.terms.now);
  found = λ k d none. absurd (omega arith);
}

pub weighted_tail-requires : goal.weighted_tail-requires
weighted_tail-requires g c =
    let below = subst (λ t. t.p <ℚ whole 1) (sym c.term-item.is) (c.requires.below_one _ _ c.loop-term-test.true) in
    let small = subst (λ t. t.p.den ≤ 1000000000) (sym c.term-item.is) (c.requires.small _ _ c.loop-term-test.true) in
    let part = weight_within c.args.terms.now c.loop-term.term-index c.term-item.result c.loop-term-test.true
    (sym c.term-item.is) c.requires.priced.total in
    (omega arith, (omega arith, (below, (small, (part, c.requires.mean)))))

pub returns-in_err-weighted_tail-clause-none : goal.returns-in_err-weighted_tail-clause-none
returns-in_err-weighted_tail-clause-none g c = (
  λ _. (
    c.loop-term.term-index,
    c.term-item.result,
    c.loop-term-test.true,
    sym c.term-item.is,
    c.in_err-weighted_tail.ensures.none.0 refl,
  ),
  λ _. rw c.from_residual.ensures refl,
)

pub add-sum-requires : goal.add-sum-requires
add-sum-requires g c =
    let term = c.in_ok-weighted_tail.ensures in
    let more = step c.term-item.result c.loop-term.invariant.sum c.loop-term-test.true (sym c.term-item.is)
    c.in_ok-weighted_tail.field-0.lo c.in_ok-weighted_tail.field-0.hi term.holds term.least term.width term.most in
    let fits = sum_small c.args.terms.now (c.loop-term.term-index + 1) _ c.requires.priced.total more.small in
    (omega arith, omega arith)

pub loop-term-preserved : goal.loop-term-preserved
loop-term-preserved g c = record {
  sum =
      let term = c.in_ok-weighted_tail.ensures in
      rw (c.add-sum.ensures.low, c.add-sum.ensures.high) (step c.term-item.result c.loop-term.invariant.sum
      c.loop-term-test.true (sym c.term-item.is) c.in_ok-weighted_tail.field-0.lo c.in_ok-weighted_tail.field-0.hi
      term.holds term.least term.width term.most);
  found = All-more (λ t. IsFirstFound (low_cdf (2 ^ g.row.B) (low_at c.args.g.now)) t.p (length c.args.g.now) None → ⊥)
      c.args.terms.now c.loop-term.term-index c.term-item.result c.loop-term-test.true c.loop-term.invariant.found
      (subst (λ t. IsFirstFound (low_cdf (2 ^ g.row.B) (low_at c.args.g.now)) t.p (length c.args.g.now) None → ⊥)
      c.term-item.is (λ none. let some = c.in_ok-weighted_tail.ensures.none.1 none in absurd (cc)));
}

pub returns-clause-none : goal.returns-clause-none
returns-clause-none g c = (
  λ e. absurd (cc),
  λ any. absurd (subst (All (λ t. IsFirstFound (low_cdf (2 ^ g.row.B) (low_at c.args.g.now)) t.p
      (length c.args.g.now) None → ⊥)) (take_all c.loop-term.term-index c.args.terms.now c.loop-term-test.false)
      c.loop-term.invariant.found any.0 any.1 any.2 (subst (λ t. IsFirstFound (low_cdf (2 ^ g.row.B)
      (low_at c.args.g.now)) t.p (length c.args.g.now) None) (sym any.3) any.4)),
)

pub returns-clause-holds : goal.returns-clause-holds
returns-clause-holds g c = all_hold c.loop-term.invariant.sum c.loop-term-test.false

pub returns-clause-least : goal.returns-clause-least
returns-clause-least g c = all_least c.loop-term.invariant.sum c.loop-term-test.false

pub returns-clause-width : goal.returns-clause-width
returns-clause-width g c m s of_mean of_spread =
    let narrow = all_narrow c.loop-term.invariant.sum c.loop-term-test.false in
    let wider = price_rises c.args.terms.now (c.args.mean.hi - c.args.mean.lo) m (length c.args.g.now)
    (spread c.args.g.now) s c.requires.below_one of_mean of_spread in omega arith
