use Rattle.dl_answers.proofs.Common.{ℕ, ◌<◌, ◌≤◌, get_or, Asked, cells_read}
use Rattle.dl_answers.proofs.asked.cells_asked.Given as goal

abbrev pub invariant-asks : goal.invariant-asks
invariant-asks l = record {
  some : 1 ≤ l.most;
  within : l.most ≤ l.cells;
  inside : (k : ℕ) (d : Asked) → k < l.i → cells_read l.cells (get_or l.asks k d).ask ≤ l.most;
}
