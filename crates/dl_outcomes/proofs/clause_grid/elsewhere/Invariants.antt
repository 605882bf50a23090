use Rattle.dl_outcomes.proofs.Walk.{AreElsewhere}
use Rattle.dl_outcomes.proofs.clause_grid.elsewhere.Given as goal

abbrev pub invariant-loop-s : goal.invariant-loop-s
invariant-loop-s g l = AreElsewhere l.cede l.sums l.s l.y l.total.lo l.total.hi
