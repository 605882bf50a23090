use Rattle.dl_iv.proofs.Common.{pow_pos}
use Rattle.dl_iv.proofs.Operations.{sub_high}
use Rattle.dl_iv.proofs.interval.Iv.width.Goals as goal

pub returns-clause-holds : goal.returns-clause-holds
returns-clause-holds g c x y p q = sub_high _ (pow_pos g.row.B) _ _ x y p.high q.low
