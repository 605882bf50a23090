use Rattle.dl_sources.proofs.Common.{arith, most_horizon, ◌≤◌, IsHorizonOf, unit_horizon, horizon_there, ◌also◌}
use Rattle.dl_sources.proofs.Scales.{horizon_size}
use Rattle.dl_sources.proofs.UnitLaws.{horizon_some}
use Rattle.dl_sources.proofs.units.claims_grid.Goals as goal

pub unwrap-horizon-requires : goal.unwrap-horizon-requires
unwrap-horizon-requires g c =
    horizon_there c.args.unit.now.cede c.args.cells c.horizon.result c.horizon.ensures
    (unit_horizon c.args.cells c.args.unit.now c.requires.on.few c.requires.on.valid)

pub unit_grid_with-requires : goal.unit_grid_with-requires
unit_grid_with-requires g c =
    let on = c.requires.on in
    let many = c.unwrap-horizon.result in
    let found : IsHorizonOf c.args.unit.now.cede c.args.cells many × (many ≤ most_horizon c.args.cells) =
    rw c.unwrap-horizon.ensures at c.horizon.ensures in
    (omega arith)
    also horizon_size g.row.B c.args.cells many on.scale (horizon_some c.args.unit.now.cede c.args.cells many on.some found.0)
    found.1 also (c.args.cells, on.valid)
