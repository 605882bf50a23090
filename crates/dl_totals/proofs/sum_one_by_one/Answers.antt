use Rattle.dl_totals.proofs.Common.{length, arith, ap, ◌∙◌, IfOk-weaker, spread, length-take-le}
use Rattle.dl_totals.proofs.Added.{all_units, all_spread, to_the_end, long_enough, all_within}
use Rattle.dl_totals.proofs.sum_one_by_one.Goals as goal

pub returns-clause-encloses : goal.returns-clause-encloses
returns-clause-encloses g c =
    IfOk-weaker c.with_units.result _ _ (λ sum further us w each.
    all_units c.args.units.now _ c.index-units-0.result c.in_ok-first.first sum c.args.cells us c.requires.units
    (to_the_end 1 c.args.units.now) c.index-units-0.is
    (long_enough c.args.units.now c.args.cells 0 c.index-units-0.result
    (omega arith) c.index-units-0.is c.requires.in_each) c.in_ok-first.ensures further w each)
    c.with_units.ensures.encloses

pub returns-clause-spread : goal.returns-clause-spread
returns-clause-spread g c =
    IfOk-weaker c.with_units.result _ _ (λ sum narrow.
    all_spread c.args.units.now _ c.index-units-0.result c.args.cells _ _ c.requires.units
    (to_the_end 1 c.args.units.now) c.index-units-0.is (ap spread c.in_ok-first.ensures) narrow)
    c.with_units.ensures.spread

pub with_units-requires : goal.with_units-requires
with_units-requires g c =
    let long = long_enough c.args.units.now c.args.cells 0 c.index-units-0.result
    (omega (arith, c.requires.units)) c.index-units-0.is c.requires.in_each in (
      omega arith,
      (
        c.requires.some,
        (
          ap length c.in_ok-first.ensures ∙ length-take-le c.args.cells c.index-units-0.result long,
          all_within c.args.cells c.args.units.now 1 c.requires.in_each,
        ),
      ),
    )
