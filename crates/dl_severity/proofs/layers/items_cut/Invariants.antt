-- The items read so far, with their amounts cut.
use Rattle.dl_severity.proofs.Common.{◌≡◌, map, take, layer, with_amount}
use Rattle.dl_severity.proofs.layers.items_cut.Given as goal

abbrev pub invariant-items : goal.invariant-items
invariant-items l = l.made.items ≡ map (with_amount (layer l.fn.limit l.fn.attach)) (take l.item-index l.items)
