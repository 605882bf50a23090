use Rattle.dl_cert.proofs.Common.{◌≡◌, ◌++◌, low_at, high_at, cells_text}
use Rattle.dl_cert.proofs.printing.push_cells.Given as goal

abbrev pub invariant-loop-x : goal.invariant-loop-x
invariant-loop-x l = l.text.items ≡ l.initial.text.items ++ cells_text (low_at l.grid) (high_at l.grid) l.x
