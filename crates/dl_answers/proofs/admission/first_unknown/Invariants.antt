use Rattle.dl_answers.proofs.Common.{ℕ, ◌<◌, get_or, Asked, NamesUnit}
use Rattle.dl_answers.proofs.admission.first_unknown.Given as goal

abbrev pub invariant-loop-i : goal.invariant-loop-i
invariant-loop-i l = (k : ℕ) (d : Asked) → k < l.i → NamesUnit l.units (get_or l.asks k d).ask
