use Rattle.dl_iv.proofs.Common.{refl, pow_pos}
use Rattle.dl_iv.proofs.Operations.{one_low, one_high, sub_low, sub_high}
use Rattle.dl_iv.proofs.interval.Iv.complement.Goals as goal

pub returns : goal.returns
returns g c =
    let pos = pow_pos g.row.B in
    record {
      low = rw (c.saturating_sub.ensures, c.units_of_one-one.ensures) refl;
      high = rw (c.saturating_sub-2.ensures, c.units_of_one-one.ensures) refl;
      holds = λ x p. record {
        low = rw (c.saturating_sub.ensures, c.units_of_one-one.ensures) (sub_low _ pos _ _ _ x (one_low _ pos) p.high);
        high = rw (c.saturating_sub-2.ensures, c.units_of_one-one.ensures)
            (sub_high _ pos _ _ _ x (one_high _ pos) p.low);
      };
    }
