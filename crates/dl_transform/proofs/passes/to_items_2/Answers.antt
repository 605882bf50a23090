use Rattle.dl_transform.proofs.Common.{◌*◌}
use Rattle.dl_transform.proofs.TwoItems.{two_items}
use Rattle.dl_transform.proofs.passes.to_items_2.Goals as goal

pub returns-clause-items : goal.returns-clause-items
returns-clause-items c =
    two_items c.args.table.now c.args.node (2 * c.args.table.now.p) c.args.x.now c.requires c.inverse-w.result.0
    c.join-a.result.0 c.join-a.result.1 c.inverse-w.ensures.value c.join-a.ensures.first c.join-a.ensures.second
