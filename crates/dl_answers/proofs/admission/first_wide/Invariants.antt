use Rattle.dl_answers.proofs.Common.{ℕ, ◌<◌, get_or, Asked, scale, Passes}
use Rattle.dl_answers.proofs.admission.first_wide.Given as goal

abbrev pub invariant-loop-i : goal.invariant-loop-i
invariant-loop-i g l = (k : ℕ) (d : Asked) → k < l.i → Passes (scale l.plan) l.plan (get_or l.asks k d).ask l.settings
