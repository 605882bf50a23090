-- The ranges are good where none has a flaw.
use Rattle.dl_reading.proofs.Common.{◌∙◌, sym, if_ok, All-nil, Fraction, Span, HasPartsOf18Digits}
use Rattle.dl_reading.proofs.Single.{single_read}
use Rattle.dl_reading.proofs.Spanned.{all_ranges, few_read, many, none_is, values_are, values_modest}
use Rattle.dl_reading.proofs.value_lists.spanned_values.Goals as goal

pub long_list-requires-clause-long : goal.long_list-requires-clause-long
long_list-requires-clause-long c =
    many c.args.bounds c.args.list.now (rw c.as_slice-items.ensures at c.if-items-bounds.true)

pub returns-then-are_single-clause-read : goal.returns-then-are_single-clause-read
returns-then-are_single-clause-read c =
    if_ok c.first_numbers.result _ _ (λ made read. single_read c.args.bounds c.args.list.now c.requires.formed
    (rw c.as_slice-items.ensures at (sym c.are_single.ensures ∙ c.if-are_single.true))
    (rw c.as_slice-items.ensures at c.if-items-bounds.false) (rw c.as_slice-items.ensures at read))
    c.first_numbers.ensures.read

pub values_of_ranges-requires-clause-ranges : goal.values_of_ranges-requires-clause-ranges
values_of_ranges-requires-clause-ranges c = rw c.as_slice.ensures (all_ranges c.args.list.now c.requires.formed c.in_ok-ranges.ranges
    (rw c.as_slice-items.ensures at c.in_ok-ranges.ensures) (none_is _ (sym c.is_some.ensures ∙ c.if-is_some.false))
    (none_is _ (sym c.is_some-else-is_some.ensures ∙ c.if-is_some-2.false)))

pub returns-in-Ok-clause-read : goal.returns-in-Ok-clause-read
returns-in-Ok-clause-read c = rw (c.with.ensures, c.from_vec.ensures) (few_read c.args.list.now c.requires.formed c.in_ok-ranges.ranges
    (rw c.as_slice-items.ensures at c.in_ok-ranges.ensures) (none_is _ (sym c.is_some.ensures ∙ c.if-is_some.false))
    (none_is _ (sym c.is_some-else-is_some.ensures ∙ c.if-is_some-2.false)) c.args.bounds c.in-Ok.values.items
    (rw c.as_slice.ensures at c.in-Ok.ensures.values) c.in-Ok.ensures.few)

pub returns-in-Ok-clause-modest : goal.returns-in-Ok-clause-modest
returns-in-Ok-clause-modest c = rw (c.with.ensures, c.from_vec.ensures) (values_modest c.args.list.now c.requires.formed c.in_ok-ranges.ranges
    (rw c.as_slice-items.ensures at c.in_ok-ranges.ensures) (none_is _ (sym c.is_some.ensures ∙ c.if-is_some.false))
    (none_is _ (sym c.is_some-else-is_some.ensures ∙ c.if-is_some-2.false)) c.in-Ok.values.items
    (rw c.as_slice.ensures at c.in-Ok.ensures.values))

pub long_list-requires-in-Err-TooLong-clause-long : goal.long_list-requires-in-Err-TooLong-clause-long
long_list-requires-in-Err-TooLong-clause-long c =
    rw (values_are c.args.list.now c.requires.formed c.in_ok-ranges.ranges
    (rw c.as_slice-items.ensures at c.in_ok-ranges.ensures) (none_is _ (sym c.is_some.ensures ∙ c.if-is_some.false))
    (none_is _ (sym c.is_some-else-is_some.ensures ∙ c.if-is_some-2.false)))
    at (rw c.as_slice.ensures at (rw c.in-Err-TooLong.field-0-is at c.in-Err-TooLong.ensures.long))

pub long_list-requires-clause-items : goal.long_list-requires-clause-items
long_list-requires-clause-items c = rw c.as_slice-items.ensures at c.item_flaws.ensures

pub long_list-requires-in-Err-TooLong-clause-items : goal.long_list-requires-in-Err-TooLong-clause-items
long_list-requires-in-Err-TooLong-clause-items c = (rw c.as_slice-items.ensures at c.in_ok-ranges.ensures).first

pub returns-then-items-bounds-clause-modest : goal.returns-then-items-bounds-clause-modest
returns-then-items-bounds-clause-modest c = rw c.long_list.ensures.part (All-nil (λ (pair : Fraction × Span). HasPartsOf18Digits pair.0))
