use Rattle.dl_model.proofs.TailEnds.{tail_ends}
use Rattle.dl_model.proofs.measures.law_tail_ends.Goals as goal

pub returns : goal.returns
returns c us p r s bound a b q w v e pos i aq qb near l h x m k =
    tail_ends us p r s bound a b q w v e pos i aq qb near l h x m k
