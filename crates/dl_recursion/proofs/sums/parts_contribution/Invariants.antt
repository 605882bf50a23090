use Rattle.dl_recursion.proofs.Common.{◌≡◌, length, take, sum_by, contribution}
use Rattle.dl_recursion.proofs.sums.parts_contribution.Given as goal

abbrev pub invariant-loop-part : goal.invariant-loop-part
invariant-loop-part g l = record {
  low : l.low_sum ≡ sum_by (contribution l.before l.after l.low (length l.low)) (take l.part-index l.parts);
  high : l.high_sum ≡ sum_by (contribution l.before l.after l.high (length l.low)) (take l.part-index l.parts);
}
