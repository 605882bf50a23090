use Rattle.dl_model.proofs.Clauses.{clause_few, clause_rest}
use Rattle.dl_model.proofs.units.law_clause.Goals as goal

pub returns : goal.returns
returns c = record {
  inside = λ u S k lo hi y h pos e within. clause_few u h S k lo hi pos e y within;
  past = λ u S k lo hi y v h pos e bound past fits. clause_rest u h S k lo hi pos e y v bound past fits;
}
