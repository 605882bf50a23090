-- What the weights read so far leave of the whole.
use Rattle.dl_plan.proofs.Common.{◌≡◌, ◌+◌, take, numerator_over}
use Rattle.std.proofs.Common.{sum_by}
use Rattle.dl_plan.proofs.fine.sum_to_one.Given as goal

abbrev pub invariant-fracs : goal.invariant-fracs
invariant-fracs l = l.left + sum_by (numerator_over l.fn.common) (take l.frac-index l.fracs) ≡ l.fn.common
