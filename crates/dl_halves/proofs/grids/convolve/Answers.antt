use Rattle.dl_halves.proofs.Common.{arith}
use Rattle.dl_convolution.proofs.Fits.{ends_fit}
use Rattle.dl_halves.proofs.grids.convolve.Goals as goal

pub with_halved_sums-lows-requires-clause-fits : goal.with_halved_sums-lows-requires-clause-fits
with_halved_sums-lows-requires-clause-fits g c =
    let long = c.in_ok-lows.ensures.low_cells in
    ends_fit c.args.a.now _ _ _ c.lows.ensures.grid (omega (arith, long)) (omega (arith, long)) c.lows.ensures.small
    c.lows-2.ensures.small

pub with_halved_sums-highs-requires-clause-fits : goal.with_halved_sums-highs-requires-clause-fits
with_halved_sums-highs-requires-clause-fits g c =
    let long = c.in_ok-lows.ensures.high_cells in
    ends_fit c.args.a.now _ _ _ c.highs.ensures.grid (omega (arith, long)) (omega (arith, long)) c.highs.ensures.small
    c.highs-2.ensures.small
