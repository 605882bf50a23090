use Rattle.dl_budget.proofs.Common.{arith}
use Rattle.dl_budget.proofs.Horizons.{few_cells}
use Rattle.dl_budget.proofs.TailShares.{cells_total}
use Rattle.dl_budget.proofs.asks.kappa_budget.Goals as goal

pub returns-clause-small : goal.returns-clause-small
returns-clause-small g c =
    let bound = cells_total c.args.plan.now.cells c.args.budgets.total (few_cells c.args.plan.now c.requires.plan.valid).1
    c.requires.plan.are.total_small in
    omega (arith, c.requires.unit.joint_small)
