use Rattle.dl_recursion.proofs.Common.{◌≡◌, ◌≤◌}
use Rattle.dl_recursion.specs.Blocks.{given_by}
use Rattle.dl_recursion.proofs.blocks.with_block.Given as goal

abbrev pub invariant-loop-k : goal.invariant-loop-k
invariant-loop-k l = record {
  low : l.low ≡ given_by l.k l.x.low.items l.factors l.s;
  high : l.high ≡ given_by l.k l.x.high.items l.factors l.s;
  within : l.k ≤ l.s;
}
