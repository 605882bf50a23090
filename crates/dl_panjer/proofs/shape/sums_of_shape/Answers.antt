use Rattle.dl_panjer.proofs.Common.{arith, low_at, high_at, total_pos}
use Rattle.dl_panjer.proofs.Reading.{low_at_most, high_at_most}
use Rattle.dl_panjer.proofs.Shapes.{amounts_below, all_fit, numbers_small, amounts_small, numbers_small_up, amounts_small_up, low_is, high_is}
use Rattle.dl_panjer.proofs.shape.sums_of_shape.Goals as goal

pub overflow_mul-low_numbers : goal.overflow_mul-low_numbers
overflow_mul-low_numbers g c =
    let cells = c.args.cells.now in
    let weighted = c.requires.weighted in
    omega (
      arith,
      all_fit c.args.items.now weighted c.requires.cells.size (low_at cells)
          (low_at_most cells c.requires.cells.small) _ _ c.sums_before-low.ensures.low c.sums_before-low_amounts.ensures.low,
    )

pub overflow_sub-low_numbers : goal.overflow_sub-low_numbers
overflow_sub-low_numbers g c =
    let cells = c.args.cells.now in
    let weighted = c.requires.weighted in
    amounts_below c.args.items.now weighted c.requires.cells.size (low_at cells)
    (low_at_most cells c.requires.cells.small) _ _ c.sums_before-low.ensures.low c.sums_before-low_amounts.ensures.low

pub overflow_mul-high_numbers : goal.overflow_mul-high_numbers
overflow_mul-high_numbers g c =
    let cells = c.args.cells.now in
    let weighted = c.requires.weighted in
    omega (
      arith,
      all_fit c.args.items.now weighted c.requires.cells.size (high_at cells)
          (high_at_most cells c.requires.cells.small) _ _ c.sums_before-low.ensures.high c.sums_before-low_amounts.ensures.high,
    )

pub overflow_sub-high_numbers : goal.overflow_sub-high_numbers
overflow_sub-high_numbers g c =
    let cells = c.args.cells.now in
    let weighted = c.requires.weighted in
    amounts_below c.args.items.now weighted c.requires.cells.size (high_at cells)
    (high_at_most cells c.requires.cells.small) _ _ c.sums_before-low.ensures.high c.sums_before-low_amounts.ensures.high

pub nonzero_div-low_numbers : goal.nonzero_div-low_numbers
nonzero_div-low_numbers g c =
    omega (arith, c.from-total.ensures, total_pos c.args.items.now c.args.total c.requires.weighted)

pub nonzero_div-low_amounts : goal.nonzero_div-low_amounts
nonzero_div-low_amounts g c =
    omega (arith, c.from-total.ensures, total_pos c.args.items.now c.args.total c.requires.weighted)

pub div_ceil-requires : goal.div_ceil-requires
div_ceil-requires g c =
    omega (arith, c.from-total.ensures, total_pos c.args.items.now c.args.total c.requires.weighted)

pub div_ceil-requires-2 : goal.div_ceil-requires-2
div_ceil-requires-2 g c =
    omega (arith, c.from-total.ensures, total_pos c.args.items.now c.args.total c.requires.weighted)

pub counted_by-requires-clause-once_small : goal.counted_by-requires-clause-once_small
counted_by-requires-clause-once_small g c =
    let cells = c.args.cells.now in
    let weighted = c.requires.weighted in
    rw c.from-total.ensures (numbers_small c.args.items.now weighted c.requires.cells.size (low_at cells)
    (low_at_most cells c.requires.cells.small) _ _ c.sums_before-low.ensures.low c.sums_before-low_amounts.ensures.low)

pub counted_by-requires-clause-by_shape_small : goal.counted_by-requires-clause-by_shape_small
counted_by-requires-clause-by_shape_small g c =
    let cells = c.args.cells.now in
    let weighted = c.requires.weighted in
    rw c.from-total.ensures (amounts_small c.args.items.now weighted c.requires.cells.size (low_at cells)
    (low_at_most cells c.requires.cells.small) _ _ c.sums_before-low.ensures.low c.sums_before-low_amounts.ensures.low)

pub counted_by-requires-2-clause-once_small : goal.counted_by-requires-2-clause-once_small
counted_by-requires-2-clause-once_small g c =
    let cells = c.args.cells.now in
    let weighted = c.requires.weighted in
    rw (c.div_ceil.ensures, c.from-total.ensures) (numbers_small_up c.args.items.now weighted c.requires.cells.size (high_at cells)
    (high_at_most cells c.requires.cells.small) _ _ c.sums_before-low.ensures.high c.sums_before-low_amounts.ensures.high)

pub counted_by-requires-2-clause-by_shape_small : goal.counted_by-requires-2-clause-by_shape_small
counted_by-requires-2-clause-by_shape_small g c =
    let cells = c.args.cells.now in
    let weighted = c.requires.weighted in
    rw (c.div_ceil-2.ensures, c.from-total.ensures) (amounts_small_up c.args.items.now weighted c.requires.cells.size (high_at cells)
    (high_at_most cells c.requires.cells.small) _ _ c.sums_before-low.ensures.high c.sums_before-low_amounts.ensures.high)

pub returns-clause-low : goal.returns-clause-low
returns-clause-low g c =
    let cells = c.args.cells.now in
    let weighted = c.requires.weighted in
    rw (c.counted_by.ensures, c.from-total.ensures) (low_is c.args.items.now weighted c.requires.cells.size (low_at cells)
    (low_at_most cells c.requires.cells.small) _ _ c.sums_before-low.ensures.low c.sums_before-low_amounts.ensures.low c.args.t)

pub returns-clause-high : goal.returns-clause-high
returns-clause-high g c =
    let cells = c.args.cells.now in
    let weighted = c.requires.weighted in
    rw (c.counted_by-2.ensures, c.div_ceil.ensures, c.div_ceil-2.ensures, c.from-total.ensures) (high_is c.args.items.now weighted c.requires.cells.size (high_at cells)
    (high_at_most cells c.requires.cells.small) _ _ c.sums_before-low.ensures.high c.sums_before-low_amounts.ensures.high c.args.t)
