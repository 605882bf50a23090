use Rattle.dl_budget.proofs.Common.{arith}
use Rattle.dl_budget.proofs.Horizons.{unit_told, few_horizon, one_horizon, few_cells}
use Rattle.dl_budget.proofs.laws.law_horizons.Goals as goal

pub returns : goal.returns
returns c = record {
  known = λ plan valid i d inside. unit_told plan.cells plan.cells _ (valid.units i d inside);
  few = λ plan valid i d inside. few_horizon plan.cells _ (omega (arith, (few_cells plan valid).1))
      (valid.units i d inside);
  one = λ plan k valid i d inside there. one_horizon plan.cells plan.cells k _ (valid.units i d inside) there;
}
