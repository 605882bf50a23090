-- A bucket of size 1.
use Rattle.dl_plan.proofs.Common.{arith, whole, whole_pos, whole_num, whole_den, IsBucket}

pub one_bucket : IsBucket (whole 1)
one_bucket = grind (arith, whole_pos 1 (omega arith), whole_num 1, whole_den 1)
