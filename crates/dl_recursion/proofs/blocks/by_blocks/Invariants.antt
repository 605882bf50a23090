use Rattle.dl_recursion.proofs.Common.{◌≡◌, length, all_parts, AreInScale}
use Rattle.dl_recursion.specs.Recursion.{AreFirst}
use Rattle.dl_recursion.specs.Blocks.{AreGivenBefore}
use Rattle.dl_recursion.proofs.blocks.by_blocks.Given as goal

abbrev pub invariant-cells : goal.invariant-cells
invariant-cells l = record {
  in_scale : AreInScale l.amounts.runs.items l.x;
  count : length l.x.low.items ≡ l.n;
  first : AreFirst (all_parts l.amounts) 0 l.after l.q (length l.x.low.items) l.x;
  given : l.given.shift ≡ l.x.shift → AreGivenBefore l.factors.items l.x l.given;
}
