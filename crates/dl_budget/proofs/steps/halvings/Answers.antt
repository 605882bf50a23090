use Rattle.dl_budget.proofs.Common.{◌*◌, arith, ap}
use Rattle.dl_budget.proofs.HalvingLaws.{first_halvings, halvings_value, half_after_13, half_by_shift}
use Rattle.dl_budget.proofs.steps.halvings.Goals as goal

pub returns-then-double-den-clause-least : goal.returns-then-double-den-clause-least
returns-then-double-den-clause-least c =
    first_halvings c.args.mean c.loop-times.times
    (half_by_shift c.args.mean c.loop-times.times _ c.den.result _
    (ap (λ t. 2 * t) c.num.ensures.part) c.den.ensures.part c.if-double-den.true) c.loop-times.invariant.more

pub returns-then-double-den-clause-value : goal.returns-then-double-den-clause-value
returns-then-double-den-clause-value c =
    halvings_value c.args.mean c.loop-times.times (returns-then-double-den-clause-least c)

pub returns-clause-least : goal.returns-clause-least
returns-clause-least c = first_halvings c.args.mean 13 (half_after_13 c.args.mean c.requires)
    (λ i before. c.loop-times.invariant.more i (omega arith))

pub returns-clause-value : goal.returns-clause-value
returns-clause-value c = halvings_value c.args.mean 13 (returns-clause-least c)
