-- The items so far.
use Rattle.dl_reading.proofs.Common.{map, take, IsReadTo, flaws_in, flaws_of_item, spanned_range}
use Rattle.dl_reading.proofs.value_lists.item_ranges.Given as goal

abbrev pub invariant-items : goal.invariant-items
invariant-items l =
    IsReadTo 2 (flaws_in flaws_of_item (take l.item-index l.items)) (map spanned_range (take l.item-index l.items))
    (record { part = l.made.items; flaws = l.flaws })
