use Rattle.dl_unit.proofs.Common.{IfOk-weaker}
use Rattle.dl_unit.proofs.unit.unit_grid_with.Goals as goal

pub returns-clause-cells : goal.returns-clause-cells
returns-clause-cells g c = IfOk-weaker c.sum_grid.result _ _ (λ grid narrow. narrow.cells) c.sum_grid.ensures

pub returns-clause-encloses : goal.returns-clause-encloses
returns-clause-encloses g c = IfOk-weaker c.sum_grid.result _ _ (λ grid narrow. narrow.encloses) c.sum_grid.ensures

pub returns-clause-spread : goal.returns-clause-spread
returns-clause-spread g c = IfOk-weaker c.sum_grid.result _ _ (λ grid narrow. narrow.spread) c.sum_grid.ensures
