use Rattle.dl_cert.proofs.Common.{ℕ, ◌≡◌, ◌<◌, length, get_or, label_at}
use Rattle.dl_cert.proofs.checking.is_target.Given as goal

abbrev pub invariant-loop-unit : goal.invariant-loop-unit
invariant-loop-unit l = (i : ℕ) → i < l.unit → label_at l.labels (length l.targets) l.step i ≡ get_or l.targets i 0
