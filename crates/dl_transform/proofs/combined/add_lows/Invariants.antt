use Rattle.dl_transform.proofs.Common.{◌≡◌, ◌+◌, ◌^◌, get_or}
use Rattle.dl_transform.proofs.Steps.{IsChanged}
use Rattle.dl_transform.proofs.combined.add_lows.Given as goal

abbrev pub invariant-loop-s : goal.invariant-loop-s
invariant-loop-s l = IsChanged (2 ^ 125) (λ k t z. z ≡ t + get_or l.lows k 0) l.fn.highs l.highs l.s
