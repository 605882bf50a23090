use Rattle.dl_transform.proofs.Common.{ℕ, ◌<◌, true}
use Rattle.dl_transform.proofs.checks.holds_below.Given as goal

abbrev pub invariant-loop-k : goal.invariant-loop-k
invariant-loop-k g l = (k : ℕ) → k < l.k → goal.F-post g l.test k true
