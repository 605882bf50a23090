use Rattle.dl_panjer.proofs.Common.{◌/◌, ◌≤◌, arith, div_ceil, mul-le-mul_right, floor_le_ceiling}
use Rattle.dl_panjer.proofs.follow.ends_of.Goals as goal

pub overflow_mul-result : goal.overflow_mul-result
overflow_mul-result g c =
    let below : c.args.sums.0 / c.args.total ≤ div_ceil c.args.sums.1 c.args.total =
    floor_le_ceiling _ _ c.args.total c.args.total c.requires.total (omega arith) c.requires.ordered in
    omega (arith, c.requires.fits, mul-le-mul_right c.args.num below)
