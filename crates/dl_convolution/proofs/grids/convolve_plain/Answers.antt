use Rattle.dl_convolution.proofs.Common.{arith}
use Rattle.dl_convolution.proofs.Fits.{ends_fit}
use Rattle.dl_convolution.proofs.grids.convolve_plain.Goals as goal

pub with_plain_sums-lows-requires : goal.with_plain_sums-lows-requires
with_plain_sums-lows-requires g c =
    let long = c.in_ok-lows.ensures.low_cells in
    ends_fit c.args.a.now _ _ _ c.lows.ensures.grid (omega (arith, long)) (omega (arith, long)) c.lows.ensures.small
    c.lows-2.ensures.small

pub with_plain_sums-highs-requires : goal.with_plain_sums-highs-requires
with_plain_sums-highs-requires g c =
    let long = c.in_ok-lows.ensures.high_cells in
    ends_fit c.args.a.now _ _ _ c.highs.ensures.grid (omega (arith, long)) (omega (arith, long)) c.highs.ensures.small
    c.highs-2.ensures.small
