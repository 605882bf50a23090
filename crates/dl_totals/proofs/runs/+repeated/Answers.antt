use Rattle.dl_totals.proofs.Common.{◌+◌, arith, IfOk-weaker, if_ok_two, ◌/◌}
use Rattle.dl_totals.proofs.OneGrid.{single, single_first, both_parts}
use Rattle.dl_totals.proofs.runs.+repeated.Goals as goal

pub returns-then-many-eq1-clause-encloses : goal.returns-then-many-eq1-clause-encloses
returns-then-many-eq1-clause-encloses g t c =
    IfOk-weaker c.truncate.result _ _ (λ sum is us w e.
    single_first c.args.unit.now sum c.args.cells c.args.many us c.if-many-eq1.true c.requires.in_unit is w e)
    c.truncate.ensures

pub returns-then-many-eq0-clause-encloses : goal.returns-then-many-eq0-clause-encloses
returns-then-many-eq0-clause-encloses g t c us w e =
    both_parts c.args.unit.now c.in_ok-half.half c.in_ok-half.half c.in_ok-even.even c.args.cells (c.args.many / 2)
    (c.args.many / 2) c.args.many us (omega arith)
    (omega (arith, c.in_ok-half.ensures.cells)) (omega (arith, c.in_ok-half.ensures.cells)) c.in_ok-even.ensures.cells
    c.in_ok-even.ensures.convolution
    c.in_ok-half.ensures.encloses c.in_ok-half.ensures.encloses w e

pub returns-clause-encloses : goal.returns-clause-encloses
returns-clause-encloses g t c =
    if_ok_two c.product.result _ _ _ (λ sum cells made us w e.
    both_parts c.args.unit.now c.in_ok-even.even c.args.unit.now sum c.args.cells
    (c.args.many / 2 + c.args.many / 2) 1 c.args.many us (omega arith)
    (omega (arith, c.in_ok-even.ensures.cells)) c.requires.in_unit cells made
    (λ vs w e. both_parts c.args.unit.now c.in_ok-half.half c.in_ok-half.half c.in_ok-even.even c.args.cells
    (c.args.many / 2) (c.args.many / 2)
    (c.args.many / 2 + c.args.many / 2) vs (omega arith)
    (omega (arith, c.in_ok-half.ensures.cells)) (omega (arith, c.in_ok-half.ensures.cells)) c.in_ok-even.ensures.cells
    c.in_ok-even.ensures.convolution
    c.in_ok-half.ensures.encloses c.in_ok-half.ensures.encloses w e)
    (single c.args.unit.now) w e)
    c.product.ensures.cells c.product.ensures.convolution
