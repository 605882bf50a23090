-- The grids of the units so far, and those of the units behind them that cannot be pooled.
use Rattle.dl_sources.proofs.Common.{take, AreUnitGrids, drop, rest_of}
use Rattle.dl_sources.proofs.outcomes.with_pooled.Given as goal

abbrev pub invariant-loop-i : goal.invariant-loop-i
invariant-loop-i g l = record {
  made : AreUnitGrids l.plan.cells (take l.i l.units) l.made.items;
  left : AreUnitGrids l.plan.cells (rest_of (drop l.i l.units)) l.rest.items;
}
