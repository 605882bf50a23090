-- The clause decides, by its horizon.
use Rattle.dl_rules.proofs.Common.{◌≡◌, ◌∙◌, Some, nat_lt, sym, ap, ap₂, subst, at_if, horizon, horizon_is, HorizonTooLarge, breaks, horizon_too_large, same_horizon, HasFault}
use Rattle.dl_rules.proofs.grid_rules.check_horizon.Goals as goal

pub returns-clause-fault : goal.returns-clause-fault
unfolding horizon_too_large
returns-clause-fault c =
    let cells = c.args.cells in
    let clause = c.in-Whole.cede in
    let same : c.horizon.result ≡ horizon (Some clause) cells =
    same_horizon (Some clause) cells c.horizon.result _ c.horizon.ensures
    (horizon_is (Some clause) cells (rw c.in-Whole.is at c.requires)) in
    let span : c.span_if-span.result ≡ horizon_too_large cells c.args.agr =
    c.span_if-span.ensures ∙ ap₂ (λ m k. at_if (nat_lt m k) c.in-Whole.span) c.most_horizon.ensures.most same
    ∙ ap (horizon_too_large cells) (sym c.in-Whole.is) in
    subst (λ p. HasFault (breaks c.args.number HorizonTooLarge p) c.unless_broken.result) span
    (c.unless_broken.ensures.fault _ c.broken.ensures)
