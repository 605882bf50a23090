use Rattle.dl_outcomes.proofs.Common.{length, ap, arith, low_changed, high_changed, low_ends_long}
use Rattle.dl_outcomes.proofs.Cells.{none_made, one_more, changed_ends, made_ends, changed_spread_within}
use Rattle.dl_outcomes.proofs.changed_grid.changed_cells.Goals as goal

pub loop-y-init : goal.loop-y-init
loop-y-init g c = record { low = none_made _ c.in_ok-lows.ensures.items; high = none_made _ c.in_ok-highs.ensures.items }

pub loop-y-preserved : goal.loop-y-preserved
unfolding low_changed high_changed
loop-y-preserved g c = record {
  low = one_more c.loop-y.invariant.low c.in_ok-push.ensures.items (cc);
  high = one_more c.loop-y.invariant.high c.in_ok-push-2.ensures.items (cc);
}

pub returns-clause-cells : goal.returns-clause-cells
returns-clause-cells g c = omega (
  arith,
  low_ends_long c.from_ends.result,
  ap length c.from_ends.ensures.low,
  c.loop-y.invariant.low.long,
  c.cells-cells.ensures.count,
)

pub from_ends-requires : goal.from_ends-requires
from_ends-requires g c = (
  omega arith,
  changed_ends c.args.grid.now c.args.none c.args.p _ _ _ c.cells-cells.ensures.grid c.requires.below_one
      c.requires.some_claim c.requires.room (omega arith) c.loop-y.invariant.low c.loop-y.invariant.high,
)

pub returns-clause-ends : goal.returns-clause-ends
returns-clause-ends g c = made_ends c.args.grid.now c.args.none c.args.p _ _ _ c.cells-cells.ensures.grid
    c.requires.below_one c.requires.some_claim c.requires.room (omega arith) c.loop-y.invariant.low c.loop-y.invariant.high _
    c.from_ends.ensures.low c.from_ends.ensures.high

pub returns-clause-spread : goal.returns-clause-spread
returns-clause-spread g c = changed_spread_within c.args.grid.now c.args.none c.args.p _ _ _
    c.cells-cells.ensures.grid c.requires.below_one c.requires.some_claim c.requires.room (omega arith)
    c.loop-y.invariant.low c.loop-y.invariant.high _ c.from_ends.ensures.low c.from_ends.ensures.high
