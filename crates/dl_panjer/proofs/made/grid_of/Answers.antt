use Rattle.dl_panjer.proofs.Common.{◌≤◌, length, arith}
use Rattle.dl_panjer.proofs.EndsOf.{both_lists, cells_made, one_more}
use Rattle.dl_panjer.proofs.made.grid_of.Goals as goal

pub from_ends-requires : goal.from_ends-requires
from_ends-requires g c =
    let all : length c.args.cells.now ≤ c.loop-cell.cell-index = omega arith in (
      omega arith,
      both_lists c.args.cells.now c.loop-cell.cell-index c.loop-cell.lows.items c.loop-cell.highs.items
          c.requires all c.loop-cell.invariant.low c.loop-cell.invariant.high,
    )

pub returns : goal.returns
returns g c =
    let all : length c.args.cells.now ≤ c.loop-cell.cell-index = omega arith in
    cells_made c.args.cells.now c.from_ends.result c.loop-cell.cell-index c.loop-cell.lows.items c.loop-cell.highs.items
    all c.loop-cell.invariant.low c.loop-cell.invariant.high
    c.from_ends.ensures.low c.from_ends.ensures.high

pub loop-cell-preserved : goal.loop-cell-preserved
loop-cell-preserved g c = record {
  low = one_more (λ t. t.lo) c.args.cells.now c.loop-cell.cell-index c.cell-item.result _ _ c.loop-cell-test.true
      c.cell-item.is c.loop-cell.invariant.low c.in_ok-push.ensures.items;
  high = one_more (λ t. t.hi) c.args.cells.now c.loop-cell.cell-index c.cell-item.result _ _ c.loop-cell-test.true
      c.cell-item.is c.loop-cell.invariant.high c.in_ok-push-2.ensures.items;
}
