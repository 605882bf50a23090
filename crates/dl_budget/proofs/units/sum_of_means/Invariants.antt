use Rattle.dl_budget.proofs.Common.{◌≡◌, ◌^◌, ◌≤◌, take, sum_by, most_mean_budget_of, unit_mean_budget}
use Rattle.dl_budget.proofs.units.sum_of_means.Given as goal

abbrev pub invariant-loop-unit : goal.invariant-loop-unit
invariant-loop-unit g l = record {
  value : l.sum ≡ sum_by (unit_mean_budget (2 ^ g.row.B) l.cells) (take l.unit-index l.units);
  small : l.sum ≤ sum_by (λ u. most_mean_budget_of u.zero) (take l.unit-index l.units);
}
