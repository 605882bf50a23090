use Rattle.dl_cert.proofs.Common.{ℕ, ◌≡◌, ◌<◌, false, get_or, ◌==◌}
use Rattle.dl_cert.proofs.lines.index_of.Given as goal

abbrev pub invariant-loop-i : goal.invariant-loop-i
invariant-loop-i l = (k : ℕ) → k < l.i → (get_or l.text k 0 == l.sign) ≡ false
