use Rattle.dl_transform.proofs.Common.{◌*◌}
use Rattle.dl_transform.proofs.TwoItems.{two_small, two_values}
use Rattle.dl_transform.proofs.passes.to_values_2.Goals as goal

pub returns-clause-values : goal.returns-clause-values
returns-clause-values c =
    two_values c.args.table.now c.args.node (4 * c.args.table.now.p) c.args.x.now c.requires c.root-w.result.0
    c.part-a.result.0 c.part-a.result.1 c.root-w.ensures.value c.part-a.ensures.first c.part-a.ensures.second

pub returns-clause-small : goal.returns-clause-small
returns-clause-small c =
    two_small c.args.table.now c.args.node (4 * c.args.table.now.p) c.args.x.now c.requires _ _
    c.part-a.ensures.first_small c.part-a.ensures.second_small
