-- The bytes before a place, and those from it on.
use Rattle.dl_top.proofs.Common.{◌≡◌, ◌+◌, true, drop, length_to_steps}
use Rattle.dl_top.proofs.parts.length_to_steps.Given as goal

abbrev pub invariant-loop-at : goal.invariant-loop-at
invariant-loop-at l = length_to_steps true l.text ≡ l.at + length_to_steps l.begins (drop l.at l.text)
