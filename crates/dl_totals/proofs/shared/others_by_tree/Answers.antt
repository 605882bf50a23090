use Rattle.dl_totals.proofs.Common.{arith, HaveCells}
use Rattle.dl_totals.proofs.shared.others_by_tree.Goals as goal

pub others_where_asked-requires : goal.others_where_asked-requires
others_where_asked-requires g c =
    let cells : HaveCells {B = g.row.B} c.args.cells c.args.units.now = record {
      some = c.requires.cells.some;
      in_each = c.requires.cells.in_each;
    } in
    (omega arith, (c.requires.few, (c.requires.asked, (cells, (c.in_ok-outer.ensures.many, c.in_ok-outer.ensures.each)))))
