use Rattle.dl_shares.proofs.Common.{◌≡◌, ◌-◌, low_at, sums_of}
use Rattle.dl_shares.proofs.running.sum_from.Given as goal

abbrev pub invariant-loop-step : goal.invariant-loop-step
invariant-loop-step g l = l.lowered ≡ sums_of (low_at l.total) (l.from - l.step)
