-- No part of the common denominator passes the whole.
use Rattle.dl_reading.proofs.Common.{◌≤◌, ◌<◌, ◌∷◌, [], ap, ap₂, ◌∙◌, arith, Range, range_denominator, lcm, common_take-le, lcm_pos}
use Rattle.dl_reading.proofs.numbers.shared_denominator.Goals as goal

first_le : (r : Range) → lcm 1 r.from.den ≤ range_denominator r
first_le r = common_take-le (r.from ∷ r.to ∷ r.step ∷ []) 1

second_le : (r : Range) → lcm (lcm 1 r.from.den) r.to.den ≤ range_denominator r
second_le r = common_take-le (r.from ∷ r.to ∷ r.step ∷ []) 2

pub returns-in_err-first : goal.returns-in_err-first
returns-in_err-first c =
    rw c.from_residual.ensures (λ fits. c.in_err-first.ensures
    (omega (arith, fits, first_le c.args.range.now, ap (λ d. lcm 1 d) c.den.ensures.part)))

pub lcm_to-requires-2-clause-first : goal.lcm_to-requires-2-clause-first
lcm_to-requires-2-clause-first c = rw c.in_ok-first.ensures.1
    (lcm_pos 1 c.den.result (omega arith) c.den.ensures.positive)

pub returns-in_err-second : goal.returns-in_err-second
returns-in_err-second c =
    let first = c.in_ok-first.ensures.1 ∙ ap (λ d. lcm 1 d) c.den.ensures.part in
    rw c.from_residual-in_err-second.ensures
    (λ fits. c.in_err-second.ensures (omega (
      arith,
      fits,
      second_le c.args.range.now,
      ap₂ (λ a b. lcm a b) first c.den-2.ensures.part,
    )))

pub lcm_to-requires-3-clause-first : goal.lcm_to-requires-3-clause-first
lcm_to-requires-3-clause-first c =
    let first : 0 < c.in_ok-first.first = rw c.in_ok-first.ensures.1
    (lcm_pos 1 c.den.result (omega arith) c.den.ensures.positive) in
    rw c.in_ok-second.ensures.1 (lcm_pos c.in_ok-first.first c.den-2.result first c.den-2.ensures.positive)
