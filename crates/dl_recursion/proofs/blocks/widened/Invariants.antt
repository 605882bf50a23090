use Rattle.dl_recursion.proofs.Common.{◌≡◌, take}
use Rattle.dl_recursion.proofs.blocks.widened.Given as goal

abbrev pub invariant-loop-x : goal.invariant-loop-x
invariant-loop-x l = record { same : l.wide.items ≡ take l.x-index l.list }
