use Rattle.dl_answers.proofs.Common.{ℕ, ◌<◌, get_or, Asked, IsInside}
use Rattle.dl_answers.proofs.admission.first_beyond.Given as goal

abbrev pub invariant-loop-i : goal.invariant-loop-i
invariant-loop-i l = (k : ℕ) (d : Asked) → k < l.i → IsInside l.cells (get_or l.asks k d).ask
