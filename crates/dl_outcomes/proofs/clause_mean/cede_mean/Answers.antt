use Rattle.dl_outcomes.proofs.Common.{arith, length, ap, spread, subst, IfSome, IsAggregate, horizon_edges, mean_width, no_clause}
use Rattle.dl_outcomes.proofs.MeanSizes.{claims_fit, all_near}
use Rattle.dl_outcomes.proofs.clause_mean.cede_mean.Goals as goal

pub kept_mean-requires : goal.kept_mean-requires
kept_mean-requires g c =
    let valid = c.requires.valid in
    let horizon = c.requires.horizon in
    let clause = subst (λ t. IfSome t (IsAggregate valid.0 c.args.unit.now.sev)) c.in-Some.is valid.1.clause in
    let inside = horizon_edges c.in-Some.cede horizon.0 (length c.args.grid.now) (rw c.in-Some.is at horizon.1) in
    let mean = c.claims_mean-claims.ensures in
    let near = all_near valid.0 c.in-Some.cede.1 clause.near in
    let small = mean.small valid.0 valid.1 in
    let fits = claims_fit g.row.B valid.0 c.requires.scale_below in
    (omega arith, (omega arith, (clause.accepted, (near, (inside, (mean.width, omega arith))))))

pub returns-in-Some-clause-holds : goal.returns-in-Some-clause-holds
returns-in-Some-clause-holds g c =
    let valid = c.requires.valid in
    c.kept_mean.ensures.holds valid.0 c.args.unit.now valid.1 c.in-Some.is c.requires.encloses
    c.claims_mean-claims.ensures.holds

pub returns-in-Some-clause-width : goal.returns-in-Some-clause-width
returns-in-Some-clause-width g c =
    omega (arith, ap (λ cede. mean_width cede (spread c.args.grid.now)) c.in-Some.is)

pub returns-in-Some-clause-small : goal.returns-in-Some-clause-small
returns-in-Some-clause-small g c = λ cells valid. omega (arith, c.claims_mean-claims.ensures.small cells valid)

pub returns-in-None-clause-small : goal.returns-in-None-clause-small
returns-in-None-clause-small g c = λ cells valid. omega (arith, c.claims_mean-claims.ensures.small cells valid)

pub returns-in-None-clause-holds : goal.returns-in-None-clause-holds
returns-in-None-clause-holds g c = rw (no_clause c.args.unit.now c.in-None.is) c.claims_mean-claims.ensures.holds

pub returns-in-Some-clause-few : goal.returns-in-Some-clause-few
returns-in-Some-clause-few g c = λ n within. omega (arith, c.claims_mean-claims.ensures.few n within)

pub returns-in-None-clause-few : goal.returns-in-None-clause-few
returns-in-None-clause-few g c = λ n within. omega (arith, c.claims_mean-claims.ensures.few n within)
