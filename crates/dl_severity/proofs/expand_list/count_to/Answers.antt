-- One value more than steps.
use Rattle.dl_severity.proofs.Common.{◌≡◌, ◌-◌, ◌/◌, ◌≤◌, List, ap, arith, length, sym, Fraction, steps_in}
use Rattle.dl_severity.proofs.Ranged.{equal_if, one_value, rising, step_pos, steps_are, values_length}
use Rattle.dl_severity.proofs.expand_list.count_to.Goals as goal

pub returns-then-eq : goal.returns-then-eq
returns-then-eq c =
    let one = one_value c.args.range.now c.requires (equal_if c.args.range.now.from c.args.range.now.to c.if-eq.ensures) in
    omega (arith, c.min.ensures, ap (λ (xs : List Fraction). length xs) one)

pub overflow_sub-steps : goal.overflow_sub-steps
overflow_sub-steps c = rw (c.numerator_over-from.ensures, c.numerator_over.ensures)
    (rising c.args.range.now c.requires c.shared_denominator-den.result c.shared_denominator-den.ensures)

pub nonzero_div-steps : goal.nonzero_div-steps
nonzero_div-steps c = rw c.numerator_over-2.ensures
    (step_pos c.args.range.now c.requires c.shared_denominator-den.result c.shared_denominator-den.ensures)

pub returns-then-steps-most : goal.returns-then-steps-most
returns-then-steps-most c =
    let steps = steps_are c.args.range.now c.requires c.shared_denominator-den.result c.shared_denominator-den.ensures in
    let count : c.args.most ≤ steps_in c.args.range.now =
    rw steps (rw (c.numerator_over.ensures, c.numerator_over-from.ensures, c.numerator_over-2.ensures) at
    c.if-steps-most.true) in
    omega (arith, count, values_length c.args.range.now)

pub returns : goal.returns
returns c =
    let steps : (c.numerator_over.result - c.numerator_over-from.result) / c.numerator_over-2.result
    ≡ steps_in c.args.range.now =
    rw (c.numerator_over.ensures, c.numerator_over-from.ensures, c.numerator_over-2.ensures) (sym
    (steps_are c.args.range.now c.requires c.shared_denominator-den.result c.shared_denominator-den.ensures)) in
    omega (arith, steps, values_length c.args.range.now, c.if-steps-most.false)
