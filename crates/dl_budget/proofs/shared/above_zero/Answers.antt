-- The sum stays admitted, and so is not refused.
use Rattle.dl_budget.proofs.Common.{◌∙◌, given_ok, given_value}
use Rattle.dl_budget.proofs.SharedUnits.{sum_none, sum_next, next_fits}
use Rattle.dl_budget.proofs.shared.above_zero.Goals as goal

pub units-init : goal.units-init
units-init c = c.whole-sum.ensures ∙ sum_none

pub unwrap-sum-requires : goal.unwrap-sum-requires
unwrap-sum-requires c = given_ok _ _ c.add.ensures (next_fits c.args.units.now c.units.unit-index c.unit-item.result
    c.units.sum c.thinned.result c.units-test.true c.unit-item.is c.units.invariant c.thinned.ensures
    c.requires.factor.1.thinned)

pub units-preserved : goal.units-preserved
units-preserved c = given_value _ _ c.unwrap-sum.result c.add.ensures c.unwrap-sum.ensures
    ∙ sum_next c.args.units.now c.units.unit-index c.unit-item.result c.units.sum c.thinned.result c.units-test.true
    c.unit-item.is c.units.invariant c.thinned.ensures
