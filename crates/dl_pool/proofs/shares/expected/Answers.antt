-- A sum that is not refused is that of the units so far, and an admitted one is not refused.
use Rattle.dl_pool.proofs.Common.{◌∙◌, ◌+◌, sym, subst, arith, FitsFrac, lent, given_value, admitted_fits}
use Rattle.dl_pool.proofs.Units.{sum_none, sum_step, lent_inside, lent_item, not_refused}
use Rattle.dl_pool.proofs.shares.expected.Goals as goal

pub units-init : goal.units-init
units-init c = c.whole-sum.ensures ∙ sum_none

pub returns-in_default-clause-there : goal.returns-in_default-clause-there
returns-in_default-clause-there c few =
    let units = c.args.units.now in
    let step = sum_step (lent units) c.units.unit-index c.unit-item.result.now c.units.sum c.expected.result
    (lent_inside units c.units.unit-index c.units-test.true)
    (lent_item units c.units.unit-index c.unit-item.result c.units-test.true c.unit-item.is) c.units.invariant
    c.expected.ensures in
    absurd (not_refused _ _ _ c.add.ensures c.in_default.is (subst FitsFrac (sym step)
    (admitted_fits _ (few (c.units.unit-index + 1) (omega arith) (omega arith)))))

pub units-preserved : goal.units-preserved
units-preserved c =
    let units = c.args.units.now in
    given_value _ _ c.in-Ok.more c.add.ensures c.in-Ok.is
    ∙ sum_step (lent units) c.units.unit-index c.unit-item.result.now c.units.sum c.expected.result
    (lent_inside units c.units.unit-index c.units-test.true)
    (lent_item units c.units.unit-index c.unit-item.result c.units-test.true c.unit-item.is) c.units.invariant
    c.expected.ensures
