use Rattle.dl_grid.proofs.EndLists.{lows_small, ends_below}
use Rattle.dl_grid.proofs.grid.Grid.lows.Goals as goal

pub returns-clause-fits : goal.returns-clause-fits
returns-clause-fits g c =
    rw c.as_slice.ensures.value (ends_below _ c.self.invariant.size.scale_below (lows_small c.self.invariant))
