use Rattle.dl_sources.proofs.Common.{arith, ◌also◌}
use Rattle.dl_sources.proofs.Means.{clause_unit_mean, plain_mean}
use Rattle.dl_sources.proofs.Scales.{plan_scale}
use Rattle.dl_sources.proofs.ZeroLaws.{small_before}
use Rattle.dl_sources.proofs.units.clause_mean.Goals as goal

pub claims_mean-requires : goal.claims_mean-requires
claims_mean-requires g c =
    let scale = plan_scale g.row.B c.args.cells c.requires.on.scale in
    (omega (arith, scale.least, scale.most)) also (omega (arith, scale.least, scale.most))
    also (omega (arith, scale.least, scale.most)) also (c.args.cells, c.requires.on.valid)

pub returns-in_ok-claims-in-Some-clause-mean : goal.returns-in_ok-claims-in-Some-clause-mean
returns-in_ok-claims-in-Some-clause-mean g c =
    clause_unit_mean c.in_ok-claims-in-Some.claims c.requires.on.valid c.cede_mean.ensures.holds c.cede_mean.ensures.width
    c.in_ok-claims-in-Some.ensures

pub returns-in_ok-claims-in-Some-clause-small : goal.returns-in_ok-claims-in-Some-clause-small
returns-in_ok-claims-in-Some-clause-small g c =
    small_before c.cede_mean.result c.requires.on.scale c.requires.on.valid
    (c.cede_mean.ensures.small c.args.cells c.requires.on.valid) c.cede_mean.ensures.few

pub returns-in-None-clause-mean : goal.returns-in-None-clause-mean
returns-in-None-clause-mean g c = plain_mean c.in-None.is
    c.claims_mean.ensures.holds c.claims_mean.ensures.width

pub returns-in-None-clause-small : goal.returns-in-None-clause-small
returns-in-None-clause-small g c =
    let claims = c.claims_mean.ensures in
    small_before c.claims_mean.result c.requires.on.scale c.requires.on.valid
    (omega (arith, claims.small c.args.cells c.requires.on.valid)) (λ n within. omega (arith, claims.few n within))
