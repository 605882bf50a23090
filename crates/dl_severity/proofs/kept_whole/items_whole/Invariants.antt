-- The items read so far, with what the clause keeps of their amounts.
use Rattle.dl_severity.proofs.Common.{◌≡◌, map, take, kept, with_amount}
use Rattle.dl_severity.proofs.kept_whole.items_whole.Given as goal

abbrev pub invariant-items : goal.invariant-items
invariant-items l = l.made.items ≡ map (with_amount (λ x. (kept l.fn.cede x).num)) (take l.item-index l.items)
