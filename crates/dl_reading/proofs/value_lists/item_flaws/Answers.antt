-- One item more.
use Rattle.dl_reading.proofs.Common.{flaws_of_item}
use Rattle.dl_reading.proofs.Agreeing.{told_no_part, told_next, told_end}
use Rattle.dl_reading.proofs.value_lists.item_flaws.Goals as goal

pub items-init : goal.items-init
items-init c = told_no_part flaws_of_item c.none-flaws.ensures

pub items-preserved : goal.items-preserved
items-preserved c =
    told_next flaws_of_item c.args.items.now c.items.item-index c.items-test.true c.item-item.is c.items.invariant
    c.item_range.ensures.first c.or-flaws.ensures

pub returns : goal.returns
returns c = told_end flaws_of_item c.args.items.now c.items.item-index c.items-test.false c.items.invariant
