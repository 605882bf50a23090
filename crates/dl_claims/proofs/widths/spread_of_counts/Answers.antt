use Rattle.dl_claims.proofs.Common.{◌^◌, arith, sym, mixed_none, mixed_next}
use Rattle.dl_claims.proofs.widths.spread_of_counts.Goals as goal

pub loop-init : goal.loop-init
loop-init g c = sym (mixed_none (2 ^ g.row.B) c.args.cells c.args.base)

pub loop-preserved : goal.loop-preserved
loop-preserved g c =
    rw (mixed_next (2 ^ g.row.B) c.args.cells c.args.base c.loop.counter, ← c.loop.invariant)
    (omega (arith, c.in_ok-most.ensures.1, c.in_ok-convolution_spread.ensures.value))
