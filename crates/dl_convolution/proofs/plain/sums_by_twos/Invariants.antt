use Rattle.dl_convolution.proofs.Common.{◌*◌, pair_sum}
use Rattle.dl_convolution.proofs.Filled.{IsFilled}
use Rattle.dl_convolution.proofs.plain.sums_by_twos.Given as goal

abbrev pub invariant-loop-half : goal.invariant-loop-half
invariant-loop-half l = IsFilled (pair_sum l.a l.b) l.out (2 * l.half)
