use Rattle.dl_sources.proofs.Common.{◌^◌, ◌≤◌, arith, sym, subst, ◌∙◌, few_cells, thinned_mean, joint_budget, shared_joint_budget, poisson_unbounded, true_shares}
use Rattle.dl_sources.proofs.ClaimsGrids.{of_total}
use Rattle.dl_sources.proofs.ReadAs.{valid_there}
use Rattle.dl_sources.proofs.extra.is_from_total.Goals as goal

pub is_narrow-requires : goal.is_narrow-requires
is_narrow-requires g c =
    let u = c.index-as_slice-i.result in
    let valid = c.requires.at.at.valid in record {
      valid = valid_there c.args.i c.as_slice.ensures c.index-as_slice-i.is c.requires.unit valid;
      unbounded = poisson_unbounded u.freq (true_shares u (sym c.can_share.ensures ∙ c.if-not-can_share.false)).count;
      few = (few_cells c.args.plan.now valid).1;
    }

pub returns : goal.returns
returns g c narrow =
    let plan = c.args.plan.now in
    let u = c.index-as_slice-i.result in
    of_total plan c.args.i c.as_slice.ensures c.index-as_slice-i.is c.requires.unit c.args.total.now c.requires.total.cells
    (omega (arith, c.requires.apart, c.is_narrow.ensures.bounded narrow))
    (subst (λ s. shared_joint_budget plan.cells s (thinned_mean u) ≤ joint_budget (2 ^ g.row.B) plan c.args.i)
    c.requires.apart (rw c.requires.most at c.is_narrow.ensures.narrow narrow)) c.requires.at.at.valid c.requires.at.independent
    (true_shares u (sym c.can_share.ensures ∙ c.if-not-can_share.false)) c.requires.total
