-- What was taken so far, and then what is left.
use Rattle.dl_top.proofs.Common.{◌≡◌, ◌++◌, drop, into_iter_items}
use Rattle.dl_top.proofs.arguments.words_behind.Given as goal

abbrev pub invariant-loop-word : goal.invariant-loop-word
invariant-loop-word l = l.words.items ++ into_iter_items l.word-iterator ≡ drop 1 (into_iter_items l.fn.args)
