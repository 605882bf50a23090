use Rattle.dl_totals.proofs.Common.{length, ◌<◌}
use Rattle.dl_totals.proofs.tree.shortest_root.Given as goal

abbrev pub invariant-loop-index : goal.invariant-loop-index
invariant-loop-index g l = l.least < length l.roots
