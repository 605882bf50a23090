-- The weights of the fractions read so far.
use Rattle.dl_severity.proofs.Common.{◌≡◌, take, map, numerator_over}
use Rattle.dl_severity.proofs.weights.over_common.Given as goal

abbrev pub invariant-probs : goal.invariant-probs
invariant-probs l = l.weights.items ≡ map (numerator_over l.fn.common) (take l.prob-index l.probs)
