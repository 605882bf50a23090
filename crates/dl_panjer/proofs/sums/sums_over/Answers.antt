use Rattle.dl_panjer.proofs.Common.{◌+◌, ◌<◌, ◌^◌, arith, eqb, not, Item, size_few, sum_by_more_le}
use Rattle.dl_panjer.proofs.Reading.{low_small, high_small, low_more, high_more, low_fits, high_fits}
use Rattle.dl_panjer.proofs.sums.sums_over.Goals as goal

abbrev none : Item
none = record { amount = 0; weight = 0 }

pub factor-factor-requires-clause-near : goal.factor-factor-requires-clause-near
factor-factor-requires-clause-near g c =
    omega (arith, c.requires.near c.items.item-index none c.items-test.true, size_few c.requires.cells.size)

pub factor-factor-requires-clause-within : goal.factor-factor-requires-clause-within
factor-factor-requires-clause-within g c = omega (
  arith,
  sum_by_more_le (λ (i : Item). i.weight) c.args.items.now c.items.item-index none c.items-test.true,
  c.requires.within,
)

pub product-low-requires : goal.product-low-requires
product-low-requires g c = low_small (not (eqb g.row.BY_AMOUNT 0)) c.args.cells.now c.args.items.now c.requires.cells
    c.requires.no_zero _ _ c.items-test.true c.factor-factor.ensures c.index-cells-next.is

pub product-high-requires : goal.product-high-requires
product-high-requires g c = high_small (not (eqb g.row.BY_AMOUNT 0)) c.args.cells.now c.args.items.now c.requires.cells
    c.requires.no_zero _ _ c.items-test.true c.factor-factor.ensures c.index-cells-next.is

pub overflow_add-low : goal.overflow_add-low
overflow_add-low g c =
    let fits : c.items.low + c.product-low.result < 2 ^ 128 = low_fits (not (eqb g.row.BY_AMOUNT 0)) c.args.cells.now
    c.args.items.now c.requires.cells c.requires.no_zero _ _ c.items-test.true c.factor-factor.ensures
    c.index-cells-next.is c.requires.near c.requires.within c.product-low.ensures c.items.invariant.low in omega arith

pub overflow_add-high : goal.overflow_add-high
overflow_add-high g c =
    let fits : c.items.high + c.product-high.result < 2 ^ 128 = high_fits (not (eqb g.row.BY_AMOUNT 0)) c.args.cells.now
    c.args.items.now c.requires.cells c.requires.no_zero _ _ c.items-test.true c.factor-factor.ensures
    c.index-cells-next.is c.requires.near c.requires.within c.product-high.ensures c.items.invariant.high in omega arith

pub items-preserved : goal.items-preserved
items-preserved g c = record {
  low = low_more (not (eqb g.row.BY_AMOUNT 0)) c.args.cells.now c.args.items.now c.requires.cells
      c.requires.no_zero _ _ c.items-test.true c.factor-factor.ensures c.index-cells-next.is c.product-low.ensures c.items.invariant.low;
  high = high_more (not (eqb g.row.BY_AMOUNT 0)) c.args.cells.now c.args.items.now c.requires.cells
      c.requires.no_zero _ _ c.items-test.true c.factor-factor.ensures c.index-cells-next.is c.product-high.ensures c.items.invariant.high;
}
