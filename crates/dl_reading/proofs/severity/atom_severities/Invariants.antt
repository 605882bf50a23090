-- The severities of the atoms that were read, with fine probabilities.
use Rattle.dl_reading.proofs.Common.{◌≡◌, true, map, take, HasDistribution, AllZip, atom_pairs, atom_probs, are_fine, list_all}
use Rattle.dl_reading.proofs.severity.atom_severities.Given as goal

abbrev pub invariant-atoms : goal.invariant-atoms
invariant-atoms l =
    (list_all (λ a. are_fine l.bounds.parts (atom_probs a)) (take l.atom-index l.fn.sev.atoms) ≡ true)
    × AllZip HasDistribution l.made.items (map atom_pairs (take l.atom-index l.fn.sev.atoms))
