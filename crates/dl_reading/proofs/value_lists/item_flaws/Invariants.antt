-- The items so far.
use Rattle.dl_reading.proofs.Common.{take, AgreeToFirst, spans, flaws_in, flaws_of_item}
use Rattle.dl_reading.proofs.value_lists.item_flaws.Given as goal

abbrev pub invariant-items : goal.invariant-items
invariant-items l = AgreeToFirst (spans l.flaws) (spans (flaws_in flaws_of_item (take l.item-index l.items)))
