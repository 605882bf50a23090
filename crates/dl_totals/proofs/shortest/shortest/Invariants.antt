use Rattle.dl_totals.proofs.Common.{length, ◌<◌}
use Rattle.dl_totals.proofs.shortest.shortest.Given as goal

abbrev pub invariant-loop-at : goal.invariant-loop-at
invariant-loop-at g l = l.least < length l.grids
