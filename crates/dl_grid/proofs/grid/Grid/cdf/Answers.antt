use Rattle.dl_grid.proofs.Common.{arith}
use Rattle.dl_grid.proofs.CellLaws.{one_in_range}
use Rattle.dl_grid.proofs.EndLists.{ends_reach}
use Rattle.dl_grid.proofs.grid.Grid.cdf.Goals as goal

pub slice_bounds-sum_of-end : goal.slice_bounds-sum_of-end
slice_bounds-sum_of-end g c = ends_reach _ _ c.self.invariant c.self.view_is (omega arith) (omega arith)

pub slice_bounds-sum_of-end-2 : goal.slice_bounds-sum_of-end-2
slice_bounds-sum_of-end-2 g c = ends_reach _ _ c.self.invariant c.self.view_is (omega arith) (omega arith)

pub invariant_of-result-clause-in_range : goal.invariant_of-result-clause-in_range
invariant_of-result-clause-in_range g c = omega (arith, one_in_range g.row.B c.self.invariant.size.scale_below)
