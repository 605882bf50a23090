-- The items so far.
use Rattle.dl_reading.proofs.Common.{map, take, All, HasPartsOf18Digits, IsReadTo, flaws_in}
use Rattle.dl_reading.proofs.Single.{first_flaws, first_value}
use Rattle.dl_reading.proofs.value_lists.first_numbers.Given as goal

abbrev pub invariant-items : goal.invariant-items
invariant-items l = record {
  read : IsReadTo 1 (flaws_in first_flaws (take l.item-index l.items)) (map first_value (take l.item-index l.items))
      (record { part = l.made.items; flaws = l.flaws });
  modest : All (λ pair. HasPartsOf18Digits pair.0) l.made.items;
}
