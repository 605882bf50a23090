use Rattle.dl_recursion.proofs.Common.{◌≡◌, length, all_parts, AreInScale}
use Rattle.dl_recursion.specs.Recursion.{AreFirst}
use Rattle.dl_recursion.proofs.recursion.recur.Given as goal

abbrev pub invariant-cells : goal.invariant-cells
invariant-cells l = record {
  in_scale : AreInScale l.amounts.runs.items l.x;
  count : length l.x.low.items ≡ l.n;
  first : AreFirst (all_parts l.amounts) l.before l.after l.q (length l.x.low.items) l.x;
}
