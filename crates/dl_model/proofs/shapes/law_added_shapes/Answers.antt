use Rattle.dl_model.proofs.AddedShapes.{ones_added, shapes_added}
use Rattle.dl_model.proofs.shapes.law_added_shapes.Goals as goal

pub returns : goal.returns
returns c = record { powers = ones_added; sum = shapes_added }
