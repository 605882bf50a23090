-- The means of the units so far.
use Rattle.dl_sources.proofs.Common.{take, AreMeansOf}
use Rattle.dl_sources.proofs.outcomes.unit_means.Given as goal

abbrev pub invariant-loop-i : goal.invariant-loop-i
invariant-loop-i g l = AreMeansOf l.plan.cells (take l.i l.units) l.means.items
