use Rattle.dl_totals.proofs.TreeLaws.{others_left}
use Rattle.dl_totals.proofs.tree.all_down.Goals as goal

pub returns-clause-each : goal.returns-clause-each
returns-clause-each g c = others_left c.args.cells c.args.units.now c.loop.nodes.items c.loop.outer.items c.loop.invariant.down
