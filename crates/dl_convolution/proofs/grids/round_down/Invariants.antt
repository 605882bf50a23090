use Rattle.dl_convolution.proofs.Common.{◌/◌, ◌^◌}
use Rattle.dl_convolution.proofs.Filled.{IsMapped}
use Rattle.dl_convolution.proofs.grids.round_down.Given as goal

abbrev pub invariant-loop-s : goal.invariant-loop-s
invariant-loop-s l = IsMapped (λ sum. sum / 2 ^ l.bits) l.initial.items l.items l.s
