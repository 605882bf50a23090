use Rattle.dl_iv.proofs.Common.{pow_pos}
use Rattle.dl_iv.proofs.Operations.{sub_low, sub_high}
use Rattle.dl_iv.proofs.interval.Iv.sub_floor0.Goals as goal

pub returns : goal.returns
returns g c = record {
  low = c.saturating_sub.ensures;
  high = c.saturating_sub-2.ensures;
  holds = λ x y p q. record {
    low = rw c.saturating_sub.ensures (sub_low _ (pow_pos g.row.B) _ _ x y p.low q.high);
    high = rw c.saturating_sub-2.ensures (sub_high _ (pow_pos g.row.B) _ _ x y p.high q.low);
  };
}
