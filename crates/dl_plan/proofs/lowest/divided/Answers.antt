-- One item more is divided.
use Rattle.dl_plan.proofs.Common.{◌<◌, length, subst, sym, divided_by, get_or_default, map_over_more}
use Rattle.dl_plan.proofs.lowest.divided.Goals as goal

pub items-preserved : goal.items-preserved
items-preserved c =
    let within : c.items.item-index < length c.items.item-items =
    subst (λ n. c.items.item-index < n) (sym c.items.auto.item-items) c.items-test.true in
    map_over_more (divided_by c.args.common) c.deref_mut-item-items.result.now c.items.item-items c.items.item-index _
    c.items-test.true c.items.invariant
    (get_or_default c.items.item-items c.items.item-index _ _ within)
