-- A share of 1.
use Rattle.dl_reading.proofs.Common.{arith, given_ok, over_fits}
use Rattle.dl_reading.proofs.clauses.share_exceeds.Goals as goal

pub unwrap-requires : goal.unwrap-requires
unwrap-requires c = given_ok _ _ c.make.ensures (over_fits 1 1 (omega arith) (omega arith) (omega arith))
