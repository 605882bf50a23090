-- The look decides.
use Rattle.dl_reading.proofs.PastEdges.{all_multiples}
use Rattle.dl_reading.proofs.law.law_clauses.Goals as goal

pub returns : goal.returns
returns c = λ clause step is_clause. all_multiples clause step is_clause
