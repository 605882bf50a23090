-- One item more.
use Rattle.dl_reading.proofs.Common.{Range, flaws_of_item, spanned_range}
use Rattle.dl_reading.proofs.Agreeing.{read_no_part, read_made, read_next}
use Rattle.dl_reading.proofs.value_lists.item_ranges.Goals as goal

pub items-init : goal.items-init
items-init c = read_no_part 2 flaws_of_item spanned_range c.new-made.ensures.items c.none-flaws.ensures

pub items-preserved : goal.items-preserved
items-preserved c =
    read_next 2 flaws_of_item spanned_range c.args.items.now c.items.item-index c.items-test.true c.item-item.is
    c.items.invariant (read_made (λ (r : Range). (r, c.item-item.result.span)) c.item_range-one.ensures)
    c.in_ok-push.ensures.items c.or-flaws.ensures
