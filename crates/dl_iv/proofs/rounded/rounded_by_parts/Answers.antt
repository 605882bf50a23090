use Rattle.dl_iv.proofs.Common.{arith, sym, ap, ◌+◌, ◌*◌, ◌/◌, ◌∙◌}
use Rattle.dl_iv.proofs.Rounding.{floor_by_step, ceiling_by_step}
use Rattle.dl_iv.proofs.rounded.rounded_by_parts.Goals as goal

pub returns-clause-low : goal.returns-clause-low
returns-clause-low c = sym (floor_by_step c.args.low c.args.low_by c.args.factor c.requires.low_positive)

pub returns-clause-high : goal.returns-clause-high
returns-clause-high c =
    ap (λ rest. c.args.high / c.args.high_by * c.args.factor + rest) c.div_ceil-upper.ensures
    ∙ sym (ceiling_by_step c.args.high c.args.high_by c.args.factor c.requires.high_positive)

pub overflow_add-result : goal.overflow_add-result
overflow_add-result c = omega (arith, returns-clause-low c, c.requires.low_fits)

pub overflow_mul-result : goal.overflow_mul-result
overflow_mul-result c = omega (arith, returns-clause-low c, c.requires.low_fits)

pub overflow_add-result-2 : goal.overflow_add-result-2
overflow_add-result-2 c = omega (arith, returns-clause-high c, c.requires.high_fits)

pub overflow_mul-result-2 : goal.overflow_mul-result-2
overflow_mul-result-2 c = omega (arith, returns-clause-high c, c.requires.high_fits)
