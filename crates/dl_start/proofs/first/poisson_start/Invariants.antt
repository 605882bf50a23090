use Rattle.dl_start.proofs.Common.{◌-◌, ◌≤◌, ◌<◌}
use Rattle.dl_start.proofs.first.poisson_start.Given as goal

abbrev pub invariant-loop-shares : goal.invariant-loop-shares
invariant-loop-shares l = record { some : 0 < l.shares; few : l.shares ≤ 16384 }

abbrev pub decreases-loop-shares : goal.decreases-loop-shares
decreases-loop-shares l = 16384 - l.shares
