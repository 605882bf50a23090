use Rattle.dl_budget.proofs.Common.{ℕ, ◌≡◌, ◌+◌, ◌^◌, ◌≤◌, take, fold, convolution_spread, IsOfUnits, most_sum_operands, operands, unit_budgets}
use Rattle.dl_budget.proofs.units.with_units.Given as goal

abbrev pub invariant-loop-unit : goal.invariant-loop-unit
invariant-loop-unit g l = record {
  value : l.total ≡ fold (convolution_spread (2 ^ g.row.B) l.cells) l.sum
      (take l.unit-index (unit_budgets (2 ^ g.row.B) l.cells l.units));
  size : (c : ℕ) → c + operands l.cells l.units ≤ most_sum_operands → IsOfUnits (2 ^ g.row.B) l.cells c l.sum
      → IsOfUnits (2 ^ g.row.B) l.cells (c + operands l.cells (take l.unit-index l.units)) l.total;
}
