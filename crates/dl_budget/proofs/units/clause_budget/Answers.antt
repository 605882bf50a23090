use Rattle.dl_budget.proofs.Common.{◌*◌, ◌^◌, ap, sym, ◌∙◌, horizon, claims_budget, after_clause}
use Rattle.dl_budget.proofs.Horizons.{on_horizon}
use Rattle.dl_budget.proofs.units.clause_budget.Goals as goal

pub returns-in-Some-clause-value : goal.returns-in-Some-clause-value
returns-in-Some-clause-value g c =
    ap (λ t. 2 * t) (on_horizon (2 ^ g.row.B) c.requires.valid.0 c.args.cells c.args.unit.now c.horizon.result _
    c.requires.valid.1 c.horizon.ensures.horizon c.claims_budget-before.ensures.value)
    ∙ ap (λ clause. after_clause clause (claims_budget (2 ^ g.row.B)
    (horizon c.args.unit.now.cede c.args.cells) c.args.unit.now)) (sym c.in-Some.is)

pub returns-in-None-clause-value : goal.returns-in-None-clause-value
returns-in-None-clause-value g c =
    on_horizon (2 ^ g.row.B) c.requires.valid.0 c.args.cells c.args.unit.now c.horizon.result _ c.requires.valid.1
    c.horizon.ensures.horizon c.claims_budget-before.ensures.value
    ∙ ap (λ clause. after_clause clause (claims_budget (2 ^ g.row.B)
    (horizon c.args.unit.now.cede c.args.cells) c.args.unit.now)) (sym c.in-None.is)
