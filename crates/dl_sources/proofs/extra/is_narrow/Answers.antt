use Rattle.dl_sources.proofs.Common.{◌≤◌, subst}
use Rattle.dl_sources.proofs.ClaimsGrids.{told_le}
use Rattle.dl_sources.proofs.extra.is_narrow.Goals as goal

pub returns-clause-narrow : goal.returns-clause-narrow
returns-clause-narrow c within =
    subst (λ x. x ≤ c.args.most) c.shared_joint_budget.ensures.value
    (told_le c.shared_joint_budget.result c.args.most within)
