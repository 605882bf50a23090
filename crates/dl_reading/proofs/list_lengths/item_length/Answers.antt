-- Only a range whose numerals are good, and which is one, is counted.
use Rattle.dl_reading.proofs.Common.{◌∙◌, sym}
use Rattle.dl_reading.proofs.Spanned.{none_is, range_good}
use Rattle.dl_reading.proofs.list_lengths.item_length.Goals as goal

pub count_to-requires : goal.count_to-requires
count_to-requires c =
    range_good c.args.item.now c.requires c.item_range-range.result c.item_range-range.ensures
    (none_is _ (sym c.is_some.ensures ∙ c.if-is_some.false)) (none_is _ (sym c.is_some-else-is_some.ensures ∙ c.if-is_some-2.false))
