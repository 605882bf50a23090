-- What is written here is well formed.
use Rattle.dl_reading.proofs.layers.unit_layer.Goals as goal

pub grid_layer-requires-clause-formed : goal.grid_layer-requires-clause-formed
grid_layer-requires-clause-formed c = rw c.in-Some.is at c.requires.formed
