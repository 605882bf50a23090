-- The amounts and the probabilities of the atoms read so far.
use Rattle.dl_severity.proofs.Common.{◌≡◌, map, take, mixture_of}
use Rattle.dl_severity.proofs.atoms.mix.Given as goal

abbrev pub invariant-atoms : goal.invariant-atoms
invariant-atoms l = record {
  amounts : l.amounts.items ≡ map (λ pair. pair.0)
      (mixture_of l.fn.weights.total (take l.at l.atoms) (take l.at l.fn.weights.weights));
  probs : l.probs.items ≡ map (λ pair. pair.1)
      (mixture_of l.fn.weights.total (take l.at l.atoms) (take l.at l.fn.weights.weights));
}
