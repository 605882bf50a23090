use Rattle.dl_product.proofs.Common.{◌≡◌, length}
use Rattle.dl_product.proofs.Apart.{AreWritten}
use Rattle.dl_product.proofs.steps.spread_out.Given as goal

abbrev pub invariant-loop-k : goal.invariant-loop-k
invariant-loop-k l = record {
  long : length l.out.items ≡ l.cells;
  written : AreWritten l.start l.step l.k l.items l.out.items;
}
