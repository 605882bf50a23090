-- The layers so far.
use Rattle.dl_reading.proofs.Common.{map, take, grid_ceded, IsRead, flaws_in, flaws_of_ceded}
use Rattle.dl_reading.proofs.layers.grid_layers.Given as goal

abbrev pub invariant-layers : goal.invariant-layers
invariant-layers l =
    IsRead (flaws_in (flaws_of_ceded l.most l.bs) (take l.ceded-index l.layers))
    (map (grid_ceded l.bs) (take l.ceded-index l.layers)) (record { part = l.made.items; flaws = l.flaws })
