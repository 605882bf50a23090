-- The probabilities of a severity of a plan add up to at most 1.
use Rattle.dl_model.proofs.Common.{Sev, probability_of, greatest, IsWithinOne}
use Rattle.dl_model.proofs.CompoundLaws.{severity_within_one}
use Rattle.dl_model.proofs.ItemWeights.{shares_severity}

pub within_one : (sev : Sev) → IsWithinOne (probability_of sev)
within_one sev = severity_within_one _ (greatest sev.items) (shares_severity sev.items sev.total sev.weighted)
