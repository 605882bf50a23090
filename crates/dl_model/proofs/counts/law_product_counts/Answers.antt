use Rattle.dl_model.proofs.Alike.{bound_from, cauchy_level}
use Rattle.dl_model.proofs.counts.law_product_counts.Goals as goal

pub returns : goal.returns
returns c a b u = (bound_from _ _ (cauchy_level a b).1 u, bound_from _ _ (cauchy_level a b).0 u)
