use Rattle.dl_outcomes.proofs.Walk.{HasTaken}
use Rattle.dl_outcomes.proofs.clause_grid.taken_in.Given as goal

abbrev pub invariant-loop-s : goal.invariant-loop-s
invariant-loop-s g l = HasTaken l.cede l.sums l.s l.cells l.grid
