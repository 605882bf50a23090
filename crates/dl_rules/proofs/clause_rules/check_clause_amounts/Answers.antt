-- The place that is looked for decides.
use Rattle.dl_rules.proofs.Common.{◌≡◌, ◌∙◌, ap, ap₂, subst, breaks, off_grid_cession, made_of, off_grid_amounts, HasFault, OffGridCession}
use Rattle.dl_rules.proofs.clause_rules.check_clause_amounts.Goals as goal

pub returns-clause-fault : goal.returns-clause-fault
unfolding off_grid_cession
returns-clause-fault c =
    let u = c.args.unit.now in
    let clauses = c.in_ok-clauses.ensures in
    let span : c.in_ok-span.span ≡ off_grid_cession u =
    c.in_ok-span.ensures ∙ ap₂ (λ o a. off_grid_amounts o a c.deref.result.now) clauses.occ clauses.agr
    ∙ ap (off_grid_amounts (made_of u.occ) (made_of u.agr)) (c.deref.ensures.value ∙ c.requires.amounts) in
    subst (λ p. HasFault (breaks c.args.number OffGridCession p) c.unless_broken.result) span
    (c.unless_broken.ensures.fault _ c.broken.ensures)
