-- The sums stay small, and an amount above q adds nothing.
use Rattle.dl_shares.proofs.Common.{◌^◌, ◌∙◌, ap, amounts_to, arith, low_at, high_at, size_of, high_le, low_le_high, le_trans, one_fits, scale_of, size_few, take_all}
use Rattle.dl_shares.proofs.Tilted.{amounts_more, amounts_same, amounts_fit}
use Rattle.dl_shares.proofs.claims.cell_sums.Goals as goal
use Rattle.dl_shares.proofs.claims.cell_sums.Goals.{then-item-q, else-item-q}

pub overflow_mul-low : goal.overflow_mul-low
overflow_mul-low g c =
    let grid = c.cells.ensures.grid in
    let fits = amounts_fit c.args.q (low_at c.args.total.now) c.args.items.now c.items.item-index _ c.items-test.true
    c.items.low c.at-cell.result.lo (2 ^ g.row.B) c.items.invariant.low c.if-item-q.true c.at-cell.ensures.low
    (λ k. le_trans (low_le_high c.args.total.now k) (high_le c.args.total.now k (2 ^ g.row.B) grid.small))
    (omega (arith, size_few (size_of c.args.total.now grid)))
    (one_fits g.row.B (scale_of c.args.total.now grid.some).1) c.requires.within in
    omega arith

pub overflow_mul-high : goal.overflow_mul-high
overflow_mul-high g c =
    let grid = c.cells.ensures.grid in
    let fits = amounts_fit c.args.q (high_at c.args.total.now) c.args.items.now c.items.item-index _ c.items-test.true
    c.items.high c.at-cell.result.hi (2 ^ g.row.B) c.items.invariant.high c.if-item-q.true c.at-cell.ensures.high
    (λ k. high_le c.args.total.now k (2 ^ g.row.B) grid.small)
    (omega (arith, size_few (size_of c.args.total.now grid)))
    (one_fits g.row.B (scale_of c.args.total.now grid.some).1) c.requires.within in
    omega arith

pub overflow_add-low : goal.overflow_add-low
overflow_add-low g c =
    let grid = c.cells.ensures.grid in
    let fits = amounts_fit c.args.q (low_at c.args.total.now) c.args.items.now c.items.item-index _ c.items-test.true
    c.items.low c.at-cell.result.lo (2 ^ g.row.B) c.items.invariant.low c.if-item-q.true c.at-cell.ensures.low
    (λ k. le_trans (low_le_high c.args.total.now k) (high_le c.args.total.now k (2 ^ g.row.B) grid.small))
    (omega (arith, size_few (size_of c.args.total.now grid)))
    (one_fits g.row.B (scale_of c.args.total.now grid.some).1) c.requires.within in
    omega arith

pub overflow_add-high : goal.overflow_add-high
overflow_add-high g c =
    let grid = c.cells.ensures.grid in
    let fits = amounts_fit c.args.q (high_at c.args.total.now) c.args.items.now c.items.item-index _ c.items-test.true
    c.items.high c.at-cell.result.hi (2 ^ g.row.B) c.items.invariant.high c.if-item-q.true c.at-cell.ensures.high
    (λ k. high_le c.args.total.now k (2 ^ g.row.B) grid.small)
    (omega (arith, size_few (size_of c.args.total.now grid)))
    (one_fits g.row.B (scale_of c.args.total.now grid.some).1) c.requires.within in
    omega arith

pub items-preserved : goal.items-preserved
items-preserved g c = elim c.if-item-q.branch [
  | then-item-q w ↦ record {
    low = w.low-is
        ∙ amounts_more c.args.q (low_at c.args.total.now) c.args.items.now c.items.item-index _ c.items-test.true c.items.low _
        c.items.invariant.low w.if-item-q.true w.at-cell.ensures.low;
    high = w.high-is
        ∙ amounts_more c.args.q (high_at c.args.total.now) c.args.items.now c.items.item-index _ c.items-test.true c.items.high _
        c.items.invariant.high w.if-item-q.true w.at-cell.ensures.high;
  }
  | else-item-q w ↦ record {
    low = w.low-is
        ∙ amounts_same c.args.q (low_at c.args.total.now) c.args.items.now c.items.item-index _ c.items-test.true c.items.low
        c.items.invariant.low w.if-item-q.false;
    high = w.high-is
        ∙ amounts_same c.args.q (high_at c.args.total.now) c.args.items.now c.items.item-index _ c.items-test.true c.items.high
        c.items.invariant.high w.if-item-q.false;
  }
]

pub returns-clause-low : goal.returns-clause-low
returns-clause-low g c = c.items.invariant.low ∙ ap (amounts_to c.args.q (low_at c.args.total.now))
    (take_all c.items.item-index c.args.items.now c.items-test.false)

pub returns-clause-high : goal.returns-clause-high
returns-clause-high g c = c.items.invariant.high ∙ ap (amounts_to c.args.q (high_at c.args.total.now))
    (take_all c.items.item-index c.args.items.now c.items-test.false)
