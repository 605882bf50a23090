use Rattle.dl_totals.proofs.Common.{arith}
use Rattle.dl_totals.proofs.TreeLaws.{unit_forest}
use Rattle.dl_totals.proofs.tree.nodes_over.Goals as goal

pub join_all-requires : goal.join_all-requires
join_all-requires g c = (
  omega arith,
  (
    omega arith,
    (
      c.requires.cells,
      (
        c.requires.asked,
        (
          c.in_ok-roots.ensures.many,
          unit_forest c.args.cells c.args.units.now c.requires.cells.in_each c.new-nodes.result.items
              c.in_ok-roots.roots.items c.new-nodes.ensures.items c.in_ok-roots.ensures.many c.requires.cells.units
              c.in_ok-roots.ensures.each c.in_ok-roots.ensures.once,
        ),
      ),
    ),
  ),
)
