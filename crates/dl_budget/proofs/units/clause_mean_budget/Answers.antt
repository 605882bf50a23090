use Rattle.dl_budget.proofs.Common.{◌+◌, ◌^◌, ap, ap₂, sym, subst, ◌∙◌, sum_by, horizon, part_width, claims_budget, IsHorizonOf, mean_width, alone_valid}
use Rattle.dl_budget.proofs.Horizons.{on_horizon, edges_few}
use Rattle.dl_budget.proofs.units.clause_mean_budget.Goals as goal

pub layers_budget-requires-clause-inside : goal.layers_budget-requires-clause-inside
layers_budget-requires-clause-inside g c =
    edges_few _ c.args.cells c.horizon.result _ c.layers.ensures
    (subst (λ o. IsHorizonOf o c.args.cells c.horizon.result) c.in-Some.is c.horizon.ensures.horizon)
    c.horizon.ensures.few

pub returns-in-Some-clause-value : goal.returns-in-Some-clause-value
returns-in-Some-clause-value g c =
    let before = on_horizon (2 ^ g.row.B) c.args.cells c.args.cells c.args.unit.now c.horizon.result _ c.requires.valid
    c.horizon.ensures.horizon c.claims_budget-before.ensures.value in
    ap (λ t. 1 + t) (c.layers_budget.ensures.value
    ∙ ap₂ (λ budget layers. sum_by (λ l. part_width budget l.limit l.attach) layers) before c.layers.ensures)
    ∙ ap (λ clause. mean_width clause (claims_budget (2 ^ g.row.B)
    (horizon c.args.unit.now.cede c.args.cells) c.args.unit.now)) (sym c.in-Some.is)

pub claims_budget-before-requires-clause-valid : goal.claims_budget-before-requires-clause-valid
claims_budget-before-requires-clause-valid g c = (c.args.cells, alone_valid c.args.cells c.args.unit.now c.requires.valid)
