use Rattle.dl_convolution.proofs.Common.{◌^◌, min, div_ceil}
use Rattle.dl_convolution.proofs.Filled.{IsMapped}
use Rattle.dl_convolution.proofs.grids.round_up.Given as goal

abbrev pub invariant-loop-s : goal.invariant-loop-s
invariant-loop-s l = IsMapped (λ sum. min (2 ^ l.bits) (div_ceil sum (2 ^ l.bits))) l.initial.items l.items l.s
