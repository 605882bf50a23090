use Rattle.dl_totals.proofs.Common.{◌≤◌, ◌++◌, take, arith, sym, ap, subst, add-one, total, GridEncloses}
use Rattle.std.specs.Prelude.{length}
use Rattle.dl_totals.proofs.Added.{joins, widens, encloses_at, all_taken}
use Rattle.dl_totals.proofs.with_units.Goals as goal

pub loop-unit-preserved : goal.loop-unit-preserved
loop-unit-preserved g c =
    let long : c.args.cells ≤ length c.unit-item.result =
    omega (
      arith,
      c.requires.in_each c.loop-unit.unit-index c.unit-item.result (omega arith),
      ap length c.unit-item.is,
    ) in
    record {
      cells = c.in_ok-sum.ensures.cells;
      encloses = λ us vs w z of_sum each. subst (λ t. GridEncloses c.in_ok-sum.sum (total (us ++ take t vs)))
          (sym (add-one c.loop-unit.unit-index))
          (joins c.loop-unit.sum c.unit-item.result c.in_ok-sum.sum c.args.cells c.loop-unit.unit-index us vs w z
          (omega (arith, each.as_many)) (omega arith) long
          c.in_ok-sum.ensures.cells c.in_ok-sum.ensures.convolution
          (c.loop-unit.invariant.encloses us vs w z of_sum each)
          (encloses_at c.args.units.now vs c.loop-unit.unit-index c.unit-item.result each
          (omega arith) c.unit-item.is));
      spread = widens c.args.units.now c.args.cells c.loop-unit.unit-index _ _ _ c.unit-item.result
          (omega arith) c.unit-item.is c.in_ok-sum.ensures.spread c.loop-unit.invariant.spread;
    }

pub returns-clause-encloses : goal.returns-clause-encloses
returns-clause-encloses g c us vs w z of_sum each =
    all_taken c.loop-unit.sum c.loop-unit.unit-index (length c.args.units.now) us vs (omega arith) each.as_many
    (c.loop-unit.invariant.encloses us vs w z of_sum each)
