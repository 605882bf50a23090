-- The overlap of two layers with any shares.
use Rattle.dl_reading.proofs.Common.{arith, given_ok, over_fits}
use Rattle.dl_reading.proofs.clauses.overlap_each_other.Goals as goal

pub unwrap-share-requires : goal.unwrap-share-requires
unwrap-share-requires c = given_ok _ _ c.make.ensures (over_fits 1 1 (omega arith) (omega arith) (omega arith))
