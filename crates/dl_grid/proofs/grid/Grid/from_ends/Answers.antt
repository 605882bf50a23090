use Rattle.dl_grid.proofs.EndLists.{low_list, high_list, grid_of_ends}
use Rattle.dl_grid.proofs.grid.Grid.from_ends.Goals as goal

pub returns : goal.returns
returns g c =
    record { low = low_list c.requires; high = high_list c.requires; grid = grid_of_ends c.requires }
