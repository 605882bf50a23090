use Rattle.dl_grid.proofs.Common.{◌≡◌, take, sum}
use Rattle.dl_grid.proofs.grid.sum_of.Given as goal

abbrev pub invariant-loop-end : goal.invariant-loop-end
invariant-loop-end l = l.total ≡ sum (take l.end-index l.ends)
