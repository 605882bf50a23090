use Rattle.dl_model.proofs.ClauseMeans.{no_clause, ceded_mean, net_mean}
use Rattle.dl_model.proofs.clause_means.law_clause_mean.Goals as goal

pub returns : goal.returns
returns c = record {
  none = no_clause;
  ceded = λ cells u clause l h valid cede side holds. ceded_mean cells u clause valid cede l h side holds;
  net = λ cells u clause l h m n valid cede side holds mean. net_mean cells u clause valid cede l h m n side holds mean;
}
