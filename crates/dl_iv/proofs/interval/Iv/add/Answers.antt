use Rattle.dl_iv.proofs.Common.{refl, pow_pos}
use Rattle.dl_iv.proofs.Operations.{add_low, add_high}
use Rattle.dl_iv.proofs.interval.Iv.add.Goals as goal

pub returns : goal.returns
returns g c = record {
  low = refl;
  high = refl;
  holds = λ x y p q. record {
    low = add_low _ (pow_pos g.row.B) _ _ x y p.low q.low;
    high = add_high _ (pow_pos g.row.B) _ _ x y p.high q.high;
  };
}
