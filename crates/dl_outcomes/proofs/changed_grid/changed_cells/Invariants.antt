use Rattle.dl_outcomes.proofs.Cells.{AreHighs, AreLows}
use Rattle.dl_outcomes.proofs.changed_grid.changed_cells.Given as goal

abbrev pub invariant-loop-y : goal.invariant-loop-y
invariant-loop-y g l = record {
  low : AreLows l.grid l.fn.none l.fn.p l.y l.lows.items;
  high : AreHighs l.grid l.fn.none l.fn.p l.y l.highs.items;
}
