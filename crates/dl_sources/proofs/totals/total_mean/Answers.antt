use Rattle.dl_sources.proofs.Common.{arith, ◌also◌}
use Rattle.dl_sources.proofs.Means.{means_fit, is_mean}
use Rattle.dl_sources.proofs.Scales.{plan_scale}
use Rattle.dl_sources.proofs.totals.total_mean.Goals as goal

pub budgets_of-requires-clause-scale : goal.budgets_of-requires-clause-scale
budgets_of-requires-clause-scale g c = plan_scale g.row.B c.args.plan.now.cells c.requires.at.at.scale

pub sum-requires : goal.sum-requires
sum-requires g c =
    let plan = c.args.plan.now in
    let at = c.requires.at.at in
    let scale = plan_scale g.row.B plan.cells at.scale in
    let budget = c.budgets_of.ensures in
    let fit = means_fit plan c.args.means.now at.scale at.valid c.requires.at.independent c.requires.means.means
    (omega (arith, budget.mean, budget.mean_small)) in
    (omega (arith, scale.least, scale.most)) also (omega (arith, scale.least, scale.most))
    also (omega (arith, scale.least, scale.most)) also (omega (arith, fit))

pub returns-clause-mean : goal.returns-clause-mean
returns-clause-mean g c =
    is_mean c.args.means.now c.sum.result c.sum.ensures.low c.sum.ensures.high c.args.plan.now c.requires.at.at.valid
    c.requires.at.independent c.requires.means.means

pub returns-clause-small : goal.returns-clause-small
returns-clause-small g c =
    let at = c.requires.at.at in
    let budget = c.budgets_of.ensures in
    let fit = means_fit c.args.plan.now c.args.means.now at.scale at.valid c.requires.at.independent c.requires.means.means
    (omega (arith, budget.mean, budget.mean_small)) in
    omega (arith, c.sum.ensures.high, fit)
