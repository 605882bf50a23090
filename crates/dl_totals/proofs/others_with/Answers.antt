use Rattle.dl_totals.proofs.Common.{◌≡◌, ◌≤◌, ◌+◌, arith, refl, take, length, length-take, IfOk-weaker, from_there}
use Rattle.dl_totals.proofs.Added.{both_sides, both_spreads, after_alone, after_narrow, alone_left, all_within, are_before, are_after}
use Rattle.dl_totals.proofs.others_with.Goals as goal

pub returns-then-i-gt0-clause-encloses : goal.returns-then-i-gt0-clause-encloses
returns-then-i-gt0-clause-encloses g c =
    IfOk-weaker c.with_units.result _ _ (λ sum further us w each.
    both_sides c.args.units.now _ _ c.in_ok-sum.sum sum c.args.i us refl
    (from_there c.args.i c.args.units.now) c.in_ok-sum.ensures.encloses further w each)
    c.with_units.ensures.encloses

pub returns-then-i-gt0-clause-spread : goal.returns-then-i-gt0-clause-spread
returns-then-i-gt0-clause-spread g c =
    let some : 1 ≤ length (take c.args.i c.args.units.now) = omega (arith, length-take c.args.i c.args.units.now) in
    IfOk-weaker c.with_units.result _ _ (λ sum narrow.
    both_spreads c.args.units.now _ _ c.args.cells c.args.i _ _ refl
    (from_there c.args.i c.args.units.now) some c.in_ok-sum.ensures.spread narrow)
    c.with_units.ensures.spread

pub returns-then-units-gt1-clause-encloses : goal.returns-then-units-gt1-clause-encloses
returns-then-units-gt1-clause-encloses g c =
    let first : c.args.i ≡ 0 = omega arith in
    IfOk-weaker c.sum_one_by_one-then-units-gt1.result _ _ (λ sum all us w each.
    after_alone c.args.units.now _ sum c.args.i us first (from_there c.args.i c.args.units.now) all w each)
    c.sum_one_by_one-then-units-gt1.ensures.encloses

pub returns-clause-encloses : goal.returns-clause-encloses
returns-clause-encloses g c =
    let first : c.args.i ≡ 0 = omega arith in
    let alone : length c.args.units.now ≤ 1 = omega arith in
    IfOk-weaker c.no_units.result _ _ (λ sum of_sum us w each.
    alone_left c.args.units.now sum c.args.i us first alone of_sum each)
    c.no_units.ensures.encloses

pub sum_one_by_one-requires : goal.sum_one_by_one-requires
sum_one_by_one-requires g c =
    (omega arith, are_before c.args.cells c.args.i c.args.units.now c.requires.some c.if-i-gt0.true c.requires.unit c.requires.in_each)

pub with_units-requires : goal.with_units-requires
with_units-requires g c = (
  omega arith,
  (
    c.requires.some,
    (
      c.in_ok-sum.ensures.cells,
      all_within c.args.cells c.args.units.now (c.args.i + 1) c.requires.in_each,
    ),
  ),
)

pub sum_one_by_one-requires-then-units-gt1 : goal.sum_one_by_one-requires-then-units-gt1
sum_one_by_one-requires-then-units-gt1 g c =
    (omega arith, are_after c.args.cells (c.args.i + 1) c.args.units.now c.requires.some (omega arith) c.requires.in_each)

pub returns-then-units-gt1-clause-spread : goal.returns-then-units-gt1-clause-spread
returns-then-units-gt1-clause-spread g c =
    let first : c.args.i ≡ 0 = omega arith in
    IfOk-weaker c.sum_one_by_one-then-units-gt1.result _ _ (λ sum narrow.
    after_narrow c.args.units.now _ c.args.cells c.args.i _ first (from_there c.args.i c.args.units.now) narrow)
    c.sum_one_by_one-then-units-gt1.ensures.spread

pub returns-clause-spread : goal.returns-clause-spread
returns-clause-spread g c = IfOk-weaker c.no_units.result _ _ (λ sum none. omega (arith, none)) c.no_units.ensures.spread
