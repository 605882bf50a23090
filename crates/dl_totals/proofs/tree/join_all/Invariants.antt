use Rattle.dl_totals.proofs.Common.{◌≡◌, ◌+◌, length, IsForest}
use Rattle.dl_totals.proofs.tree.join_all.Given as goal

abbrev pub invariant-loop : goal.invariant-loop
invariant-loop g l = record {
  many : length l.roots.items + l.counter ≡ length l.units + 1;
  forest : IsForest l.cells l.units l.nodes.items l.roots.items;
}
