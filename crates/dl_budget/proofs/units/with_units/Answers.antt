use Rattle.dl_budget.proofs.Common.{◌+◌, ◌^◌, arith, refl, ap, ◌∙◌, fold, convolution_spread, operands, take_all}
use Rattle.dl_budget.proofs.Horizons.{unit_horizon}
use Rattle.dl_budget.proofs.Sums.{all_budgets, budget_next, operands_so_far, sum_size_next, sum_small, size_at, valid_there}
use Rattle.dl_budget.proofs.units.with_units.Goals as goal

pub unit_budget-requires-clause-valid : goal.unit_budget-requires-clause-valid
unit_budget-requires-clause-valid g c = (
  c.args.cells,
  valid_there c.args.cells c.args.units.now _ _ c.requires.valid (omega arith) c.unit-item.is,
)

pub unit_budget-requires-clause-horizon : goal.unit_budget-requires-clause-horizon
unit_budget-requires-clause-horizon g c =
    unit_horizon c.args.cells c.unit-item.result (omega arith)
    (valid_there c.args.cells c.args.units.now _ _ c.requires.valid (omega arith) c.unit-item.is)

pub convolution_spread-total-requires-clause-left : goal.convolution_spread-total-requires-clause-left
convolution_spread-total-requires-clause-left g c =
    let size = c.loop-unit.invariant.size c.requires.room.0 c.requires.room.1 c.requires.room.2 in
    let few = operands_so_far c.args.cells c.args.units.now c.loop-unit.unit-index in
    let bound = sum_small g.row.B c.args.cells _ c.loop-unit.total c.requires.scale (omega (arith, c.requires.room.1, few)) size in
    omega arith

pub loop-unit-init : goal.loop-unit-init
loop-unit-init g c = record { value = refl; size = λ n room start. size_at g.row.B c.args.cells n (n + 0) _ (omega arith) start }

pub loop-unit-preserved : goal.loop-unit-preserved
loop-unit-preserved g c = record {
  value = budget_next (2 ^ g.row.B) c.args.cells c.args.units.now c.loop-unit.unit-index c.args.sum _ _ _
      c.unit-item.result (omega arith) c.unit-item.is
      c.loop-unit.invariant.value c.unit_budget.ensures.value c.convolution_spread-total.ensures.value;
  size = λ n room start.
      sum_size_next g.row.B c.args.cells n _ _ _ c.args.units.now c.loop-unit.unit-index c.unit-item.result
      c.requires.scale (omega arith) c.unit-item.is room (c.loop-unit.invariant.size n room start)
      c.unit_budget.ensures.kind c.convolution_spread-total.ensures.value;
}

pub returns-clause-value : goal.returns-clause-value
returns-clause-value g c =
    c.loop-unit.invariant.value ∙ ap (fold (convolution_spread (2 ^ g.row.B) c.args.cells) c.args.sum)
    (all_budgets (2 ^ g.row.B) c.args.cells c.args.units.now c.loop-unit.unit-index (omega arith))

pub returns-clause-size : goal.returns-clause-size
returns-clause-size g c n room start =
    size_at g.row.B c.args.cells _ (n + operands c.args.cells c.args.units.now) _
    (ap (λ us. n + operands c.args.cells us) (take_all c.loop-unit.unit-index c.args.units.now (omega arith)))
    (c.loop-unit.invariant.size n room start)
