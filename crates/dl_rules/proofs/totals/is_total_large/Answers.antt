-- One unit more.
use Rattle.dl_rules.proofs.Common.{◌≡◌, ◌∙◌, ◌+◌, ap, arith, cond, is_some, sym, take_all, changed_units, whole_means}
use Rattle.dl_rules.proofs.Sizes.{at_most_one, one_more, total_is}
use Rattle.dl_rules.proofs.totals.is_total_large.Goals as goal
use Rattle.dl_rules.proofs.totals.is_total_large.Goals.{then-is_some, else-is_some}

pub units-preserved : goal.units-preserved
units-preserved c =
    let more = one_more c.args.units.now c.units.unit-index c.unit-item.result c.units-test.true c.unit-item.is in
    let counted : c.if-is_some.changed ≡ c.units.changed + cond (is_some c.unit-item.result.zero) 1 0 =
    elim c.if-is_some.branch [
      | then-is_some w ↦ rw (sym c.is_some.ensures ∙ w.if-is_some.true) w.changed-is
      | else-is_some w ↦ rw (sym c.is_some.ensures ∙ w.if-is_some.false) (omega (arith, w.changed-is))
    ] in
    record {
      changed = omega (arith, counted, more.0, c.units.invariant.changed);
      total = omega (arith, more.1, c.units.invariant.total, c.whole_mean-total.ensures.mean);
      few = omega (arith, counted, at_most_one (is_some c.unit-item.result.zero), c.units.invariant.few);
      small = omega (arith, c.units.invariant.small, c.whole_mean-total.ensures.small);
    }

pub returns : goal.returns
returns c =
    let all = take_all c.units.unit-index c.args.units.now c.units-test.false in
    rw c.most_total.ensures.most (total_is c.args.cells c.args.units.now c.units.changed c.units.total
    (c.units.invariant.changed ∙ ap changed_units all) (c.units.invariant.total ∙ ap whole_means all))
