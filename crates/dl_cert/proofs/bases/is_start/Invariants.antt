use Rattle.dl_cert.proofs.Common.{low_at, high_at, low_base, high_base, PassesTo}
use Rattle.dl_cert.proofs.bases.is_start.Given as goal

abbrev pub invariant-loop-y : goal.invariant-loop-y
invariant-loop-y l = PassesTo l.y l.cells (low_base l.base l.sev (low_at l.cells)) (high_base l.base l.sev (high_at l.cells))
