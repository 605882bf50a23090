-- The probabilities read so far stand behind the others.
use Rattle.dl_severity.proofs.Common.{◌≡◌, ◌++◌, map, take, ◌over◌, mixed_probability}
use Rattle.dl_severity.proofs.atoms.push_probs.Given as goal

abbrev pub invariant-items : goal.invariant-items
invariant-items l = l.probs.items ≡ l.initial.probs.items ++ map
    (mixed_probability (l.fn.weight over l.fn.total) l.fn.atom.total) (take l.item-index l.fn.atom.items)
