use Rattle.dl_grid.proofs.EndLists.{ends_below}
use Rattle.dl_grid.proofs.grid.Grid.highs.Goals as goal

pub returns-clause-fits : goal.returns-clause-fits
returns-clause-fits g c =
    rw c.as_slice.ensures.value (ends_below _ c.self.invariant.size.scale_below c.self.invariant.small)
