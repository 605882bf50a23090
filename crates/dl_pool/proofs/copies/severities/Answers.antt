-- One more copy.
use Rattle.dl_pool.proofs.Common.{lent}
use Rattle.dl_pool.proofs.Units.{severities_step, lent_inside, lent_item}
use Rattle.dl_pool.proofs.copies.severities.Goals as goal

pub units-preserved : goal.units-preserved
units-preserved c =
    let units = c.args.units.now in
    severities_step (lent units) c.units.unit-index c.unit-item.result.now c.units.made.items c.push.new.self.items
    c.in_ok-copied.field-0 (lent_inside units c.units.unit-index c.units-test.true)
    (lent_item units c.units.unit-index c.unit-item.result c.units-test.true c.unit-item.is) c.units.invariant
    c.in_ok-push.ensures.items c.in_ok-copied.ensures.items c.in_ok-copied.ensures.total
