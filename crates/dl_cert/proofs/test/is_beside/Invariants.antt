use Rattle.dl_cert.proofs.Common.{low_at, high_at, PassesTo}
use Rattle.dl_cert.proofs.test.is_beside.Given as goal

abbrev pub invariant-loop-y : goal.invariant-loop-y
invariant-loop-y l = PassesTo l.y l.cells (low_at l.numbers) (high_at l.numbers)
