-- The texts so far are asks.
use Rattle.dl_arguments.proofs.AskLists.{SoFar}
use Rattle.dl_arguments.proofs.asks.read_asks.Given as goal

abbrev pub invariant-loop-index : goal.invariant-loop-index
invariant-loop-index l = SoFar l.rules l.texts l.index l.asks.items
