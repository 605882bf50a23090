use Rattle.dl_halves.proofs.Common.{◌≡◌, ◌*◌, ◌^◌, ◌<◌}
use Rattle.dl_halves.proofs.short.half_length.Given as goal

abbrev pub invariant-loop-doublings : goal.invariant-loop-doublings
invariant-loop-doublings l = record { length_is : l.half ≡ 32 * 2 ^ l._doublings; less : l.half < l.cells }
