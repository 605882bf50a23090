use Rattle.dl_totals.proofs.Common.{◌≡◌, ◌+◌, length, ReachDown}
use Rattle.dl_totals.proofs.tree.all_down.Given as goal

abbrev pub invariant-loop : goal.invariant-loop
invariant-loop g l = record {
  many : length l.nodes.items + l.counter ≡ length l.fn.nodes.items;
  down : ReachDown l.cells l.units l.nodes.items l.outer.items;
}
