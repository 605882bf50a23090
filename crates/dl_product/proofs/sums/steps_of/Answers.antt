use Rattle.dl_product.proofs.Common.{mul-le-mul, ◌*◌, ◌^◌, arith, le_trans, mod-le, pow-le-pow_right}
use Rattle.dl_product.proofs.sums.steps_of.Goals as goal

pub returns : goal.returns
returns c =
    le_trans (mod-le (c.args.levels * 2 ^ c.args.levels) (2 ^ 64))
    (mul-le-mul c.requires (pow-le-pow_right {n = 2} (omega arith) {i = c.args.levels} {j = 17} c.requires))
