use Rattle.dl_outcomes.proofs.Common.{rules, arith, ◌+◌, ◌≤◌, ◌^◌, length, ap, sum_by, take_all, whole, ◌≤ℚ◌, spread, subst, CedeLayer, edge, part_width, layer_most, IsNear}
use Rattle.dl_outcomes.proofs.MeanSizes.{each_at, sum_more, most_fits, limited_fits, fine_shares}
use Rattle.dl_outcomes.proofs.MeanEnds.{HoldEach, ceded_start, ceded_next}
use Rattle.dl_outcomes.proofs.clause_mean.ceded_mean.Goals as goal

pub layers-init : goal.layers-init
layers-init g c = ceded_start _ _ _ c.point-ceded.result c.point-ceded.ensures.low c.point-ceded.ensures.high

pub part_of-requires : goal.part_of-requires
part_of-requires g c =
    let inside = rw c.layers-layers.ensures at c.layers-test.true in
    let is = rw c.layers-layers.ensures at c.layer-item.is in
    let at = each_at c.args.cede.now.1 c.layers.layer-index c.layer-item.result inside is in
    let near = at IsNear c.requires.near in
    let within = at (λ (k : CedeLayer). k.share ≤ℚ whole 1) c.requires.clause.within in
    let fine = at (λ (k : CedeLayer). k.share.den ≤ 2 ^ 30) (fine_shares c.args.cede.now.1 c.requires.clause.fine) in
    let ends = at (λ (k : CedeLayer). edge k ≤ length c.args.grid.now) c.requires.inside in
    search rules

pub add-ceded-requires : goal.add-ceded-requires
add-ceded-requires g c =
    let inside = rw c.layers-layers.ensures at c.layers-test.true in
    let is = rw c.layers-layers.ensures at c.layer-item.is in
    let sum = sum_more c.args.cede.now.1 c.layers.layer-index c.layer-item.result inside is
    (λ k. layer_most k.limit (2 ^ g.row.B) c.args.claims.hi) c.layers.invariant.small c.part_of.ensures.small in
    let most = most_fits c.args.cede.now (2 ^ g.row.B) c.args.claims.hi (c.layers.layer-index + 1) _ c.requires.clause
    c.requires.near sum in
    let fits = limited_fits g.row.B c.args.claims.hi _ c.args.claims.scale_below c.requires.small most in
    (omega arith, omega arith)

pub layers-preserved : goal.layers-preserved
layers-preserved g c =
    let inside = rw c.layers-layers.ensures at c.layers-test.true in
    let is = rw c.layers-layers.ensures at c.layer-item.is in
    ceded_next c.part_of.result c.layers.invariant inside is c.part_of.ensures.holds c.part_of.ensures.width
    c.part_of.ensures.small c.add-ceded.ensures.low c.add-ceded.ensures.high

pub returns-clause-holds : goal.returns-clause-holds
returns-clause-holds g c =
    let past = rw c.layers-layers.ensures at c.layers-test.false in
    subst (λ ls. HoldEach c.args.grid.now c.args.claims ls c.layers.ceded) (take_all _ c.args.cede.now.1 past)
    c.layers.invariant.holds

pub returns-clause-width : goal.returns-clause-width
returns-clause-width g c =
    let past = rw c.layers-layers.ensures at c.layers-test.false in
    let all = ap (sum_by (λ (k : CedeLayer). part_width (spread c.args.grid.now) k.limit k.attach))
    (take_all _ _ past) in omega (arith, c.layers.invariant.width)

pub returns-clause-small : goal.returns-clause-small
returns-clause-small g c = most_fits c.args.cede.now (2 ^ g.row.B) c.args.claims.hi c.layers.layer-index
    c.layers.ceded.hi c.requires.clause c.requires.near c.layers.invariant.small
