use Rattle.dl_cert.proofs.Common.{ℕ, ◌≡◌, ◌<◌, ◌≤◌, length, get_or, count_by}
use Rattle.dl_cert.proofs.passed_steps.label_of.Given as goal

abbrev pub invariant-loop-unit : goal.invariant-loop-unit
invariant-loop-unit l = (length l.row.items ≡ l.unit)
    × ((i : ℕ) → i < l.unit → (get_or l.row.items i 0 ≡ count_by l.labels (length l.targets) l.kind i)
    × (get_or l.row.items i 0 ≤ get_or l.targets i 0))
