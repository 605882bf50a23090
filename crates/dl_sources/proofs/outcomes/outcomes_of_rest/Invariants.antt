-- The grids of the units that cannot be pooled, and the means of all, so far.
use Rattle.dl_sources.proofs.Common.{take, AreOutcomesOf, rest_of}
use Rattle.dl_sources.proofs.outcomes.outcomes_of_rest.Given as goal

abbrev pub invariant-loop-i : goal.invariant-loop-i
invariant-loop-i g l = AreOutcomesOf l.plan.cells (rest_of (take l.i l.units)) (take l.i l.units) l.made
