use Rattle.dl_model.proofs.Alike.{same_cells_enclosed}
use Rattle.dl_model.proofs.counts.law_same_cells.Goals as goal

pub returns : goal.returns
returns c = same_cells_enclosed
