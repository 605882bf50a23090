-- The values read so far are whole.
use Rattle.dl_severity.proofs.Common.{ℕ, ◌<◌, get_or, Fraction, IsWhole, buckets}
use Rattle.dl_severity.proofs.buckets.first_off_grid.Given as goal

abbrev pub invariant-values : goal.invariant-values
invariant-values l = (k : ℕ) (d : Fraction) → k < l.at → IsWhole (buckets l.fn.bs (get_or l.values k d))
