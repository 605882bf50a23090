use Rattle.dl_model.proofs.ClauseMeans.{none_ceded, alone_ceded, both_ceded, each_ceded}
use Rattle.dl_model.proofs.clause_means.law_mean_ceded.Goals as goal

pub returns : goal.returns
returns c = record { none = none_ceded; alone = alone_ceded; together = both_ceded; each = each_ceded }
