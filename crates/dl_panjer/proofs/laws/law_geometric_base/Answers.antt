use Rattle.dl_panjer.proofs.Common.{severity_total, zero_weight, within_one}
use Rattle.dl_panjer.proofs.Compounds.{geometric_base}
use Rattle.dl_panjer.proofs.laws.law_geometric_base.Goals as goal

pub returns : goal.returns
returns c B sev beta grid F none low high =
    geometric_base sev.items sev.total beta grid (severity_total sev) (within_one sev) (zero_weight sev none) F low high
