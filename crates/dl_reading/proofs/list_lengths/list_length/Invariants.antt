-- The values of the items so far.
use Rattle.dl_reading.proofs.Common.{◌+◌, ◌≤◌, flat_map, length, take, IsReadTo, flaws_in, flaws_of_item, spanned_item, min}
use Rattle.dl_reading.proofs.list_lengths.list_length.Given as goal

abbrev pub invariant-items : goal.invariant-items
invariant-items l = record {
  read : IsReadTo 2 (flaws_in flaws_of_item (take l.item-index l.items))
      (min (length (flat_map spanned_item (take l.item-index l.items))) (l.bounds.values + 1))
      (record { part = l.part; flaws = l.flaws });
  few : l.part ≤ l.bounds.values + 1;
}
