use Rattle.dl_transform.proofs.Common.{ℕ, ◌≡◌, ◌+◌, ◌*◌, ◌<◌, get_or, Same}
use Rattle.dl_transform.proofs.combined.add_mixed.Given as goal

abbrev pub invariant-loop-s : goal.invariant-loop-s
invariant-loop-s l = (s : ℕ) → s < l.s → (n : ℕ) → n < l.table.p
    → Same l.table.p (get_or l.mixed s 0 * get_or l.table.scales.items l.levels 0) n
    → get_or l.highs s 0 ≡ get_or l.lows s 0 + n
