use Rattle.dl_iv.proofs.Common.{ℕ, ◌^◌, ◌<◌, arith, pow_pos, div_ceil_least, one-le-pow}
use Rattle.dl_iv.proofs.Operations.{print_low, print_high}
use Rattle.dl_iv.proofs.interval.Iv.print_ends.Goals as goal

ten_pos : (k : ℕ) → 0 < 10 ^ k
ten_pos k = one-le-pow k 10 (omega arith)

pub rounded_by_parts-requires-clause-high_fits : goal.rounded_by_parts-requires-clause-high_fits
rounded_by_parts-requires-clause-high_fits g c =
    rw (c.pow.ensures, c.units_of_one-one.ensures) (div_ceil_least _ _ (2 ^ 127) (pow_pos g.row.B) c.requires.fits)

pub returns-clause-below : goal.returns-clause-below
returns-clause-below g c x p =
    rw (c.rounded_by_parts.ensures.low, c.pow.ensures, c.units_of_one-one.ensures)
    (print_low _ (pow_pos g.row.B) _ _ x (ten_pos c.args.digits) p.low)

pub returns-clause-above : goal.returns-clause-above
returns-clause-above g c x p =
    rw (c.rounded_by_parts.ensures.high, c.pow.ensures, c.units_of_one-one.ensures)
    (print_high _ (pow_pos g.row.B) _ _ x (ten_pos c.args.digits) p.high)
