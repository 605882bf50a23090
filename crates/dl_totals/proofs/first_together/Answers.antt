use Rattle.dl_totals.proofs.Common.{arith, IfOk-weaker}
use Rattle.dl_totals.proofs.Added.{to_the_end, long_enough, all_within}
use Rattle.dl_totals.proofs.OneGrid.{first_run, with_rest}
use Rattle.dl_totals.proofs.first_together.Goals as goal

pub returns-clause-encloses : goal.returns-clause-encloses
returns-clause-encloses g c =
    IfOk-weaker c.with_units.result _ _ (λ sum further us w e.
    with_rest c.args.units.now _ c.in_ok-first.first sum c.args.many us
    (to_the_end c.args.many c.args.units.now) further
    (first_run c.args.units.now c.in_ok-first.first c.index-units-0.result c.args.many us
    c.requires.within c.requires.same (omega (arith, c.requires.first, c.requires.within)) c.index-units-0.is
    c.in_ok-first.ensures.encloses w e) w e)
    c.with_units.ensures.encloses

pub with_units-requires : goal.with_units-requires
with_units-requires g c = (
  omega arith,
  (
    c.requires.cells.some,
    (
      c.in_ok-first.ensures.cells,
      all_within c.args.cells c.args.units.now c.args.many c.requires.cells.in_each,
    ),
  ),
)

pub repeated-requires : goal.repeated-requires
repeated-requires g c = (
  omega arith,
  (
    c.requires.first,
    (
      c.requires.cells.some,
      long_enough c.args.units.now c.args.cells 0 c.index-units-0.result (omega (arith, c.requires.first, c.requires.within))
          c.index-units-0.is c.requires.cells.in_each,
    ),
  ),
)
