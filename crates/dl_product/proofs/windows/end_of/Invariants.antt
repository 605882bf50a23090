use Rattle.dl_product.proofs.Common.{ℕ, ◌≡◌, ◌+◌, ◌≤◌, length, get_or}
use Rattle.dl_product.proofs.windows.end_of.Given as goal

abbrev pub invariant-loop-i : goal.invariant-loop-i
invariant-loop-i l = (k : ℕ) → length l.xs + l.start ≤ k + l.i → get_or l.xs k 0 ≡ 0
