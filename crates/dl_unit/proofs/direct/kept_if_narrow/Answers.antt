use Rattle.dl_unit.proofs.Common.{arith, size_of, size_few}
use Rattle.dl_unit.proofs.direct.kept_if_narrow.Goals as goal

pub claims_budget-requires-clause-few : goal.claims_budget-requires-clause-few
claims_budget-requires-clause-few g c = omega (arith, c.cells.ensures.count, size_few (size_of _ c.cells.ensures.grid))
