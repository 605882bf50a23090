use Rattle.dl_panjer.proofs.Common.{severity_total, zero_weight, within_one}
use Rattle.dl_panjer.proofs.Compounds.{poisson_base}
use Rattle.dl_panjer.proofs.laws.law_poisson_base.Goals as goal

pub returns : goal.returns
returns c B sev v grid F none start =
    poisson_base sev.items sev.total v grid (severity_total sev) (within_one sev) (zero_weight sev none) F start
