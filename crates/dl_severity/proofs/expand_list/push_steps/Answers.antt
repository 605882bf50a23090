-- Each step is one value more.
use Rattle.dl_severity.proofs.Common.{ℕ, ◌≡◌, ◌∙◌, ◌+◌, ◌-◌, ◌*◌, ◌/◌, ◌<◌, ◌≤◌, ◌++◌, length, map, ap, ap₂, sym, arith, List, length-append, range_with_len, length-map-range_with_len, Fraction, ◌over◌, given_ok, given_value, numerator_over, steps_in, value_at, ◌^◌}
use Rattle.dl_severity.proofs.Ranged.{pos, rising, step_pos, steps_are, term_fits, value_is, value_fits, values_length, steps_more}
use Rattle.dl_severity.proofs.expand_list.push_steps.Goals as goal

pub overflow_sub-steps : goal.overflow_sub-steps
overflow_sub-steps c = rw (c.numerator_over-from.ensures, c.numerator_over.ensures)
    (rising c.args.range.now c.requires.range c.args.den c.requires.den)

pub nonzero_div-steps : goal.nonzero_div-steps
nonzero_div-steps c = rw c.numerator_over-step.ensures
    (step_pos c.args.range.now c.requires.range c.args.den c.requires.den)

pub returns-then-steps-most-clause-long : goal.returns-then-steps-most-clause-long
returns-then-steps-most-clause-long c =
    let steps = steps_are c.args.range.now c.requires.range c.args.den c.requires.den in
    let count : c.args.most - c.len.result ≤ steps_in c.args.range.now =
    rw steps (rw (c.numerator_over.ensures, c.numerator_over-from.ensures, c.numerator_over-step.ensures) at
    c.if-steps-most.true) in
    omega (arith, count, values_length c.args.range.now, c.len.ensures, c.args.values.now.ok.0, c.requires.room)

pub overflow_add-from : goal.overflow_add-from
overflow_add-from c = record {
  fits = term_fits c.args.range.now c.requires.range c.args.den c.requires.den _ _ _ c.steps.k
      c.numerator_over-from.ensures c.numerator_over-step.ensures c.numerator_over.ensures c.requires.shared
      c.steps-test.true;
}

part_fits : (m n : ℕ) → m + n < 2 ^ 128 → n < 2 ^ 128
part_fits m n h = omega (arith, h)

pub overflow_mul-k : goal.overflow_mul-k
overflow_mul-k c = record {
  fits = part_fits c.numerator_over-from.result _ (term_fits c.args.range.now c.requires.range c.args.den c.requires.den
      _ _ _ c.steps.k c.numerator_over-from.ensures c.numerator_over-step.ensures c.numerator_over.ensures
      c.requires.shared c.steps-test.true);
}

pub make-requires : goal.make-requires
make-requires c = pos c.args.range.now c.requires.range c.args.den c.requires.den

step_within : (k n : ℕ) → k < n + 1 → k ≤ n
step_within k n h = omega (arith, h)

pub unwrap-value-requires : goal.unwrap-value-requires
unwrap-value-requires c =
    let h : c.steps.k ≤
    (numerator_over c.args.den c.args.range.now.to - numerator_over c.args.den c.args.range.now.from) / numerator_over
    c.args.den c.args.range.now.step =
    rw (c.numerator_over.ensures, c.numerator_over-from.ensures, c.numerator_over-step.ensures) at
    (step_within c.steps.k
    ((c.numerator_over.result - c.numerator_over-from.result) / c.numerator_over-step.result) c.steps-test.true) in
    given_ok _ _ c.make.ensures
    (rw (c.numerator_over-from.ensures, c.numerator_over-step.ensures)
    (value_fits c.args.range.now c.requires.range c.args.den c.requires.den c.steps.k c.requires.shared h))

pub steps-preserved : goal.steps-preserved
steps-preserved c =
    let value = given_value _ _ c.unwrap-value.result c.make.ensures c.unwrap-value.ensures
    ∙ ap₂ (λ a b. (a + c.steps.k * b) over c.args.den) c.numerator_over-from.ensures c.numerator_over-step.ensures
    ∙ sym (value_is c.args.range.now c.requires.range c.args.den c.requires.den c.steps.k) in
    steps_more c.args.range.now c.args.values.now.items c.steps.values.items _ c.steps.k c.unwrap-value.result
    c.steps.invariant c.in_ok-push_item.ensures value

all_steps : (k n : ℕ) → n + 1 ≤ k → k ≤ n + 1 → k ≡ n + 1
all_steps k n p q = omega (arith, p, q)

pub returns-clause-values : goal.returns-clause-values
returns-clause-values c =
    let steps : (c.numerator_over.result - c.numerator_over-from.result) / c.numerator_over-step.result
    ≡ steps_in c.args.range.now =
    rw (c.numerator_over.ensures, c.numerator_over-from.ensures, c.numerator_over-step.ensures)
    (sym (steps_are c.args.range.now c.requires.range c.args.den c.requires.den)) in
    let count =
    all_steps c.steps.k
    ((c.numerator_over.result - c.numerator_over-from.result) / c.numerator_over-step.result) c.steps-test.false
    c.steps.auto.k-end
    ∙ ap (λ n. n + 1) steps in
    c.steps.invariant ∙ ap (λ n. c.args.values.now.items ++ map (value_at c.args.range.now) (range_with_len 0 n)) count

pub returns-clause-few : goal.returns-clause-few
returns-clause-few c =
    let count =
    all_steps c.steps.k
    ((c.numerator_over.result - c.numerator_over-from.result) / c.numerator_over-step.result) c.steps-test.false
    c.steps.auto.k-end in
    omega (
      arith,
      ap (λ (xs : List Fraction). length xs) c.steps.invariant,
      length-append c.args.values.now.items (map (value_at c.args.range.now) (range_with_len 0 c.steps.k)),
      length-map-range_with_len (value_at c.args.range.now) 0 c.steps.k,
      count,
      c.if-steps-most.false,
      c.len.ensures,
      c.args.values.now.ok.0,
      c.requires.room,
    )
