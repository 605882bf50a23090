-- Each sum is admitted, or there is none.
use Rattle.dl_rules.proofs.Common.{◌∙◌, Some, true, ap, sym, admitted, ◌+ℚ◌, UnitOfPlan, expected_count, thinned_mean, running_sum}
use Rattle.dl_rules.proofs.RunningSums.{sums_more, sums_none, sums_all}
use Rattle.dl_rules.proofs.FactorBounds.{no_claims, no_above}
use Rattle.dl_rules.proofs.factor.claim_sums.Goals as goal

pub units-init : goal.units-init
unfolding running_sum
units-init c = record {
  expected = ap (λ s. Some s) (sym c.whole-expected.ensures);
  above = ap (λ s. Some s) (sym c.whole-above.ensures);
}

pub units-preserved : goal.units-preserved
units-preserved c = record {
  expected = sums_more (λ (u : UnitOfPlan). expected_count u.freq) c.args.units.now c.units.unit-index c.unit-item.result
      c.units-test.true c.unit-item.is c.units.expected c.units.invariant.expected c.small.result (c.small.ensures _ c.add.ensures
      ∙ ap (λ n. admitted true (c.units.expected +ℚ n)) c.expected.ensures) c.in_ok-expected.expected c.in_ok-expected.was;
  above = sums_more thinned_mean c.args.units.now c.units.unit-index c.unit-item.result c.units-test.true c.unit-item.is
      c.units.above c.units.invariant.above c.small-in-units.result (c.small-in-units.ensures _ c.add-in-units.ensures
      ∙ ap (λ n. admitted true (c.units.above +ℚ n)) c.thinned.ensures) c.in_ok-above.above c.in_ok-above.was;
}

pub returns-in_err-expected-clause-none : goal.returns-in_err-expected-clause-none
returns-in_err-expected-clause-none c = rw c.from_residual.ensures (λ most r. no_claims most r c.args.units.now (sym (sums_none
    (λ (u : UnitOfPlan). expected_count u.freq) c.args.units.now c.units.unit-index c.unit-item.result c.units-test.true
    c.unit-item.is c.units.expected c.units.invariant.expected c.small.result (c.small.ensures _ c.add.ensures
    ∙ ap (λ n. admitted true (c.units.expected +ℚ n)) c.expected.ensures) c.in_err-expected.was)))

pub returns-in_err-above-clause-none : goal.returns-in_err-above-clause-none
returns-in_err-above-clause-none c = rw c.from_residual-in_err-above.ensures (λ most r. no_above most r c.args.units.now
    (sym (sums_none thinned_mean c.args.units.now c.units.unit-index c.unit-item.result c.units-test.true c.unit-item.is
    c.units.above c.units.invariant.above c.small-in-units.result (c.small-in-units.ensures _ c.add-in-units.ensures
    ∙ ap (λ n. admitted true (c.units.above +ℚ n)) c.thinned.ensures) c.in_err-above.was)))

pub returns-clause-expected : goal.returns-clause-expected
returns-clause-expected c = sym (sums_all (λ (u : UnitOfPlan). expected_count u.freq) c.args.units.now c.units.unit-index
    c.units.expected c.units-test.false c.units.invariant.expected)

pub returns-clause-above : goal.returns-clause-above
returns-clause-above c = sym (sums_all thinned_mean c.args.units.now c.units.unit-index c.units.above c.units-test.false
    c.units.invariant.above)
