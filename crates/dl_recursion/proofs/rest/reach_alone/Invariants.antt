use Rattle.dl_recursion.proofs.Common.{◌≡◌, ◌≤◌, take, All, part_sum}
use Rattle.dl_recursion.proofs.rest.reach_alone.Given as goal

abbrev pub invariant-loop-part : goal.invariant-loop-part
invariant-loop-part l = record {
  amount : All (λ p. p.amount ≤ l.amount) (take l.part-index l.parts);
  weight : l.weight ≡ part_sum (take l.part-index l.parts);
}
