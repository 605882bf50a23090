use Rattle.dl_model.proofs.TailEnds.{tail_start, tail_bracket}
use Rattle.dl_model.proofs.prices.law_tail_least_in.Goals as goal

pub returns : goal.returns
returns c = record { start = tail_start; excess = tail_bracket }
