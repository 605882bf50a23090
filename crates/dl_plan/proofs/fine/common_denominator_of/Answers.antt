-- The common multiple does not fall as more fractions are read.
use Rattle.dl_plan.proofs.Common.{◌+◌, arith}
use Rattle.dl_plan.proofs.CommonDenominators.{common_step, common_take-le}
use Rattle.dl_plan.proofs.fine.common_denominator_of.Goals as goal

pub returns-in-None : goal.returns-in-None
returns-in-None c = λ fine.
    let step = common_step c.args.fracs.now c.fracs.frac-index c.frac-item.result c.fracs.common c.den.result
    c.fracs-test.true c.frac-item.is c.den.ensures.part c.fracs.invariant.so_far in
    c.in-None.ensures (omega (arith, step, common_take-le c.args.fracs.now (c.fracs.frac-index + 1), fine))
