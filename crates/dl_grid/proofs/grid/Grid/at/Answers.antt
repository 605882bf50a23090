use Rattle.dl_grid.proofs.EndLists.{cells_long, read_ordered}
use Rattle.dl_grid.proofs.grid.Grid.at.Goals as goal

pub invariant_of-result : goal.invariant_of-result
invariant_of-result g c =
    let p = c.self.invariant in
    let read = read_ordered c.args.x p (rw (← c.self.view_is, cells_long p) at c.requires) c.index.ensures
    c.index-2.ensures in
    record {
      ordered = read.0;
      in_range = read.1;
      scale_above = p.size.scale_above;
      scale_below = p.size.scale_below;
    }
