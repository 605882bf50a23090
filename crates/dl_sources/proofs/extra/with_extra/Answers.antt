use Rattle.dl_sources.proofs.Common.{◌^◌, ◌<◌, ◌≤◌, IsTrue, arith, few_cells, subst, thinned_mean, joint_budget, ◌also◌, some_where, budget_bound, shared_joint_budget, gamma_unbounded, IsWholeClaimsGrid}
use Rattle.dl_sources.proofs.ClaimsGrids.{with_extra}
use Rattle.dl_sources.proofs.ReadAs.{unit_on, unit_there, valid_there}
use Rattle.dl_sources.proofs.extra.with_extra.Goals as goal

pub extra-requires-clause-valid : goal.extra-requires-clause-valid
extra-requires-clause-valid g c =
    valid_there c.args.i c.as_slice-units.ensures c.index-units-i.is c.requires.unit c.requires.of.at.at.valid

pub plain_grid-requires : goal.plain_grid-requires
plain_grid-requires g c =
    let at = c.requires.of.at.at in
    let extra = rw c.in-Some.is at c.in_ok-claims.ensures.extra in
    (omega arith)
    also unit_on at ((rw c.in-Some.is at c.in_ok-claims.ensures.valid) c.args.of.now.plan.now.cells
    (unit_there c.args.i c.as_slice-units.ensures c.index-units-i.is c.requires.unit at.valid))
    also extra.clause also extra.zero

pub product-requires : goal.product-requires
product-requires g c =
    (omega arith) also (omega (arith, c.in_ok-grid.ensures.cells))
    also (few_cells c.args.of.now.plan.now c.requires.of.at.at.valid).0 also (omega (arith, c.requires.total.cells))

pub is_narrow-narrow-requires : goal.is_narrow-narrow-requires
is_narrow-narrow-requires g c =
    let valid = c.requires.of.at.at.valid in record {
      valid = valid_there c.args.i c.as_slice-units.ensures c.index-units-i.is c.requires.unit valid;
      unbounded = gamma_unbounded c.index-units-i.result.freq (c.has_extra.ensures c.if-not-has_extra.false).count;
      few = (few_cells c.args.of.now.plan.now valid).1;
    }

pub returns : goal.returns
returns g c =
    let plan = c.args.of.now.plan.now in
    let unit = c.index-units-i.result in
    let made = c.in_ok-made.ensures in
    rw c.then_some.ensures (some_where (IsWholeClaimsGrid plan c.args.i) c.is_narrow-narrow.result c.in_ok-made.made
    (λ (within : IsTrue c.is_narrow-narrow.result).
    with_extra plan c.args.i c.as_slice-units.ensures c.index-units-i.is c.requires.unit c.in_ok-made.made made.cells
    (subst (λ s. s < budget_bound) c.spread.ensures (c.is_narrow-narrow.ensures.bounded within))
    (subst (λ s. shared_joint_budget plan.cells s (thinned_mean unit) ≤ joint_budget (2 ^ g.row.B) plan c.args.i)
    c.spread.ensures (rw c.requires.most at c.is_narrow-narrow.ensures.narrow within)) c.requires.of.at.at.valid
    c.requires.of.at.independent c.in-Some.claims (c.has_extra.ensures c.if-not-has_extra.false)
    (rw c.in-Some.is at c.in_ok-claims.ensures.extra) ((rw c.in-Some.is at c.in_ok-claims.ensures.valid) plan.cells
    (unit_there c.args.i c.as_slice-units.ensures c.index-units-i.is c.requires.unit c.requires.of.at.at.valid))
    c.in_ok-grid.ensures c.requires.total made.convolution))
