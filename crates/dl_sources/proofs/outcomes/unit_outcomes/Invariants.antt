-- The grids and means of the units so far.
use Rattle.dl_sources.proofs.Common.{take, AreOutcomesOf}
use Rattle.dl_sources.proofs.outcomes.unit_outcomes.Given as goal

abbrev pub invariant-loop-i : goal.invariant-loop-i
invariant-loop-i g l = AreOutcomesOf l.plan.cells (take l.i l.units) (take l.i l.units) l.made
