-- One in sixteen is a fraction of small parts.
use Rattle.dl_rules.proofs.Common.{arith, ◌over◌, over_fits, given_ok}
use Rattle.dl_rules.proofs.changes.has_no_base.Goals as goal

pub unwrap-rarest-requires : goal.unwrap-rarest-requires
unwrap-rarest-requires c =
    given_ok _ (1 over 16) c.make.ensures (over_fits 1 16 (omega arith) (omega arith) (omega arith))
