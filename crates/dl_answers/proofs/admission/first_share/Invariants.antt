use Rattle.dl_answers.proofs.Common.{ℕ, ◌<◌, get_or, Asked, HasShare}
use Rattle.dl_answers.proofs.admission.first_share.Given as goal

abbrev pub invariant-loop-i : goal.invariant-loop-i
invariant-loop-i l = (k : ℕ) (d : Asked) → k < l.i → HasShare l.plan (get_or l.asks k d).ask
