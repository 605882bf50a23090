-- One item more.
use Rattle.dl_reading.proofs.Common.{◌+◌, arith, take_all}
use Rattle.dl_reading.proofs.ListLengths.{items_none, items_more, length_read}
use Rattle.dl_reading.proofs.list_lengths.list_length.Goals as goal

pub items-init : goal.items-init
items-init c = record { read = items_none (c.args.bounds.values + 1) c.none-flaws.ensures; few = omega arith }

pub items-preserved : goal.items-preserved
items-preserved c = record {
  read = items_more (c.args.bounds.values + 1) c.as_slice-items.result.now c.items.item-index c.items-test.true c.item-item.is
      c.items.invariant.read c.item_length-one.ensures.read c.min-part.ensures c.or-flaws.ensures;
  few = omega (arith, c.min-part.ensures);
}

pub returns-clause-read : goal.returns-clause-read
returns-clause-read c =
    length_read c.args.bounds c.args.list.now
    (rw c.as_slice-items.ensures at (rw (take_all c.items.item-index c.as_slice-items.result.now c.items-test.false) at
    c.items.invariant.read)) (rw (c.long_at-long.ensures, c.span_if.ensures) at c.or-flaws-2.ensures)
