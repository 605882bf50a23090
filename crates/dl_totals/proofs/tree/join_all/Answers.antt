use Rattle.dl_totals.proofs.Common.{arith}
use Rattle.dl_totals.proofs.TreeLaws.{one_root}
use Rattle.dl_totals.proofs.tree.join_all.Goals as goal

pub returns : goal.returns
returns g c = one_root c.args.cells c.args.units.now c.loop.nodes.items c.loop.roots.items
    (omega (arith, c.loop.invariant.many, c.requires.cells.units)) c.loop.invariant.forest
