-- The weights of the terms read so far.
use Rattle.dl_plan.proofs.Common.{◌≡◌, map, take}
use Rattle.dl_plan.proofs.terms.weights_of.Given as goal

abbrev pub invariant-terms : goal.invariant-terms
invariant-terms l = l.weights.items ≡ map (λ term. term.weight) (take l.term-index l.terms)
