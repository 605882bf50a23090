use Rattle.dl_claims.proofs.Common.{ℕ, ◌≡◌, ◌-◌, ◌<◌, ◌≤◌, get_or}
use Rattle.dl_claims.proofs.short.filled.Given as goal

abbrev pub invariant-loop-past : goal.invariant-loop-past
invariant-loop-past l = (x : ℕ) → l.most - l.past ≤ x → x < l.most → get_or l.ends x 0 ≡ 0
