use Rattle.dl_model.proofs.TailEnds.{tail_at_quantile}
use Rattle.dl_model.proofs.prices.law_tail_least.Goals as goal

pub returns : goal.returns
returns c us w p r v b pr rp q₀ q m is a = tail_at_quantile us w p r v b pr rp q₀ q m is a
