use Rattle.dl_recursion.proofs.Common.{◌≡◌, ◌+◌, ◌*◌, ◌-◌, length, count_below, cell_before}
use Rattle.dl_recursion.proofs.sums.window_of.Given as goal

abbrev pub invariant-loop-k : goal.invariant-loop-k
invariant-loop-k l = record {
  cells : l.sum ≡ count_below l.k (λ k. cell_before l.cells (length l.cells - 1) (l.run.amount + k));
  steps : l.steps ≡ count_below l.k (λ k. k * cell_before l.cells (length l.cells - 1) (l.run.amount + k));
}
