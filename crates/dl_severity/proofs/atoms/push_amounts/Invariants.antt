-- The amounts read so far stand behind the others.
use Rattle.dl_severity.proofs.Common.{◌≡◌, ◌++◌, take, amounts_of}
use Rattle.dl_severity.proofs.atoms.push_amounts.Given as goal

abbrev pub invariant-items : goal.invariant-items
invariant-items l = l.amounts.items ≡ l.initial.amounts.items ++ amounts_of (take l.item-index l.items)
