use Rattle.dl_model.proofs.ClauseMeans.{claims_declared, claims_enclosed, claims_mean}
use Rattle.dl_model.proofs.clause_means.law_claims.Goals as goal

pub returns : goal.returns
returns c = record { declared = claims_declared; encloses = claims_enclosed; mean = claims_mean }
