use Rattle.dl_budget.proofs.Common.{◌-◌, ◌≤◌, length, drop, arith, sym, subst, common_steps, IsValidUnit, All-take, All-drop, most_budget_of, operands, rounded_spread}
use Rattle.dl_budget.proofs.Horizons.{unit_horizon}
use Rattle.dl_budget.proofs.Sums.{operands_first, operands_standard, unit_size, size_at, sum_small, sum_standard}
use Rattle.dl_budget.proofs.units.sum_of.Goals as goal

pub unit_budget-first-requires-clause-horizon : goal.unit_budget-first-requires-clause-horizon
unit_budget-first-requires-clause-horizon g c =
    let some : 1 ≤ length c.args.units.now = grind (arith, common_steps) in
    unit_horizon c.args.cells c.index-units-0.result (omega arith)
    (subst (IsValidUnit c.args.cells) (sym c.index-units-0.is) (c.requires.valid 0 c.index-units-0.result some))

pub with_units-requires-clause-valid : goal.with_units-requires-clause-valid
with_units-requires-clause-valid g c = All-take (IsValidUnit c.args.cells) (length c.args.units.now - 1)
    (drop 1 c.args.units.now) (All-drop (IsValidUnit c.args.cells) 1 c.args.units.now c.requires.valid)

pub with_units-requires-clause-room : goal.with_units-requires-clause-room
with_units-requires-clause-room g c = (
  rounded_spread c.args.cells 0 (most_budget_of c.index-units-0.result.zero),
  omega (arith, operands_first c.args.cells c.args.units.now c.index-units-0.result (grind (arith, common_steps)) c.index-units-0.is),
  unit_size g.row.B c.args.cells c.unit_budget-first.result c.index-units-0.result c.unit_budget-first.ensures.kind,
)

pub returns-clause-size : goal.returns-clause-size
returns-clause-size g c some =
    let rest = operands_first c.args.cells c.args.units.now c.index-units-0.result some c.index-units-0.is in
    size_at g.row.B c.args.cells _ (operands c.args.cells c.args.units.now) _ rest
    (c.with_units.ensures.size (rounded_spread c.args.cells 0 (most_budget_of c.index-units-0.result.zero))
    (omega (arith, rest))
    (unit_size g.row.B c.args.cells c.unit_budget-first.result c.index-units-0.result c.unit_budget-first.ensures.kind))

pub returns-clause-small : goal.returns-clause-small
returns-clause-small g c =
    sum_small g.row.B c.args.cells _ _ c.requires.scale c.requires.room
    (returns-clause-size g c (grind (arith, common_steps)))

pub returns-clause-standard : goal.returns-clause-standard
returns-clause-standard g c few =
    sum_standard g.row.B c.args.cells _ _ c.requires.scale (operands_standard c.args.cells c.args.units.now c.requires.few few)
    (returns-clause-size g c (grind (arith, common_steps)))
