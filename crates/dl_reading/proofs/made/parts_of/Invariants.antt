-- The layers read so far have their shares.
use Rattle.dl_reading.proofs.Common.{◌≡◌, map, take, ceded_layer}
use Rattle.dl_reading.proofs.made.parts_of.Given as goal

abbrev pub invariant-layers : goal.invariant-layers
invariant-layers l = l.layers.items ≡ map ceded_layer (take l.ceded-index l.ceded-items)
