use Rattle.dl_panjer.proofs.Common.{total_pos}
use Rattle.dl_panjer.proofs.Outward.{poisson_outward, geometric_outward}
use Rattle.dl_panjer.proofs.laws.law_two_roundings.Goals as goal

pub returns-clause-poisson : goal.returns-clause-poisson
returns-clause-poisson c B sev v grid F =
    poisson_outward sev.items sev.total v (total_pos sev.items sev.total sev.weighted) grid F

pub returns-clause-geometric : goal.returns-clause-geometric
returns-clause-geometric c B sev beta grid F =
    geometric_outward sev.items sev.total beta (total_pos sev.items sev.total sev.weighted) grid F
