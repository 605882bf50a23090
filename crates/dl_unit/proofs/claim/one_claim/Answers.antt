use Rattle.dl_unit.proofs.Common.{rules, IfOk-weaker, severity_total}
use Rattle.dl_unit.proofs.Severities.{probability_same}
use Rattle.dl_unit.proofs.claim.one_claim.Goals as goal

pub claim_grid-requires : goal.claim_grid-requires
claim_grid-requires g c =
    rw c.as_slice.ensures (search (rules, c.args.sev.now.weighted, severity_total c.args.sev.now))

pub returns-clause-encloses : goal.returns-clause-encloses
returns-clause-encloses g c =
    IfOk-weaker c.claim_grid.result _ _ (λ grid of_claim.
    rw (c.as_slice.ensures, probability_same c.args.sev.now) at of_claim) c.claim_grid.ensures.encloses
