-- A severity's probabilities as the model reads its list of amounts.
use Rattle.dl_unit.proofs.Common.{◌≡◌, fun_ext, Sev, probability_of, probability_is, probability_at}

pub probability_same : (sev : Sev) → probability_at sev.items ≡ probability_of sev
probability_same sev = fun_ext (probability_is sev.items sev.total sev.weighted.sum)
