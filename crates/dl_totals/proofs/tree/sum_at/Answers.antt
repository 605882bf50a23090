use Rattle.dl_totals.proofs.Common.{arith, sym, ap, ◌∙◌, Node}
use Rattle.dl_totals.proofs.TreeLaws.{unit_there, node_there}
use Rattle.dl_totals.proofs.tree.sum_at.Goals as goal

pub returns-then-at-units : goal.returns-then-at-units
returns-then-at-units g c = unit_there c.args.units.now c.args.nodes.now c.args.at c.index-units-at.result
    c.if-at-units.true c.index-units-at.is

pub returns : goal.returns
returns g c = ap (λ (n : Node g.row.B). n.grid) (sym c.index-nodes-at.is)
    ∙ node_there c.args.units.now c.args.nodes.now c.args.at c.index-nodes-at.result (omega arith) c.requires c.index-nodes-at.is
