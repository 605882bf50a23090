use Rattle.dl_iv.proofs.Common.{pow_pos, clamp_low, clamp_high}
use Rattle.dl_iv.proofs.interval.Iv.clamp_to.Goals as goal

pub returns : goal.returns
returns g c = record {
  low = c.min.ensures;
  high = c.min-2.ensures;
  holds = λ x p. record {
    low = rw c.min.ensures (clamp_low _ _ _ x (pow_pos g.row.B) p.low);
    high = rw c.min-2.ensures (clamp_high _ _ _ x (pow_pos g.row.B) p.high);
  };
}
