use Rattle.dl_budget.proofs.Common.{◌≤◌, most_horizon, IsHorizonOf}
use Rattle.dl_budget.proofs.Horizons.{horizon_there, within_any}
use Rattle.dl_budget.proofs.units.horizon.Goals as goal

pub unwrap-requires : goal.unwrap-requires
unwrap-requires c = horizon_there c.args.unit.now.cede c.args.cells c.horizon.result c.horizon.ensures
    c.requires.horizon

pub returns-clause-few : goal.returns-clause-few
returns-clause-few c =
    let found : IsHorizonOf c.args.unit.now.cede c.args.cells c.unwrap.result
    × (c.unwrap.result ≤ most_horizon c.args.cells) =
    rw c.unwrap.ensures at c.horizon.ensures in
    within_any c.args.cells c.unwrap.result found.1
