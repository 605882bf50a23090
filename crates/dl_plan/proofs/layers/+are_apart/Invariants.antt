-- Fewer layers are left.
use Rattle.dl_plan.proofs.Common.{length}
use Rattle.dl_plan.proofs.layers.+are_apart.Given as goal

abbrev pub decreases-are_apart : goal.decreases-are_apart
decreases-are_apart l = length l.layers.now
