-- What the layer takes of the amounts that were read.
use Rattle.dl_reading.proofs.Common.{◌≡◌, cond, filter, map, nat_lt, take, layer}
use Rattle.dl_reading.proofs.support.in_layer.Given as goal

abbrev pub invariant-amounts : goal.invariant-amounts
invariant-amounts l =
    l.made.items ≡ map (layer l.limit l.attach) (cond l.large (filter (nat_lt l.attach) (take l.amount-index l.amounts))
    (take l.amount-index l.amounts))
