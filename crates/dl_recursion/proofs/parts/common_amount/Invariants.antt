-- The divisor is that of the items read so far.
use Rattle.dl_recursion.proofs.Common.{◌≡◌, take, common_amount}
use Rattle.dl_recursion.proofs.parts.common_amount.Given as goal

abbrev pub invariant-items : goal.invariant-items
invariant-items l = l.common ≡ common_amount (take l.item-index l.items)
