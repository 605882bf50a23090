use Rattle.dl_sources.proofs.Common.{arith, ◌also◌}
use Rattle.dl_sources.proofs.Scales.{plan_scale, mean_fits}
use Rattle.dl_sources.proofs.PooledUnits.{pooled_unit_valid, pooled_is_mean}
use Rattle.dl_sources.proofs.factor.pooled_mean.Goals as goal

pub claims_mean-requires : goal.claims_mean-requires
claims_mean-requires g c =
    let cells = c.args.plan.now.cells in
    let pooled = c.requires.pooled in
    let scale = plan_scale g.row.B cells pooled.at.scale in
    (omega (arith, scale.least, scale.most)) also (omega (arith, scale.least, scale.most))
    also (omega (arith, scale.least, scale.most)) also (cells, pooled_unit_valid pooled.shares _ pooled.sum)

pub returns-clause-mean : goal.returns-clause-mean
returns-clause-mean g c =
    let pooled = c.requires.pooled in
    pooled_is_mean pooled.shares _ pooled.sum c.claims_mean.ensures.holds c.claims_mean.ensures.width

pub returns-clause-small : goal.returns-clause-small
returns-clause-small g c =
    let cells = c.args.plan.now.cells in
    let pooled = c.requires.pooled in
    let within = c.claims_mean.ensures.small cells (pooled_unit_valid pooled.shares _ pooled.sum) in
    omega (arith, mean_fits g.row.B cells c.claims_mean.result.hi pooled.at.scale (omega (arith, within)))
