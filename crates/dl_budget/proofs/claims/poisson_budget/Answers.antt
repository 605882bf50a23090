use Rattle.dl_budget.proofs.Common.{◌*◌, ◌+◌, ◌^◌, ap, ◌∙◌, power_spread, poisson_budget}
use Rattle.dl_budget.proofs.Bases.{poisson_room}
use Rattle.dl_budget.proofs.claims.poisson_budget.Goals as goal

pub doubled-requires-clause-room : goal.doubled-requires-clause-room
doubled-requires-clause-room g c = poisson_room c.args.cells c.halvings.result c.requires.few c.halvings.ensures.small

pub returns-clause-value : goal.returns-clause-value
unfolding poisson_budget
returns-clause-value g c some =
    c.doubled.ensures.value ∙ ap (λ h. power_spread (2 ^ g.row.B) c.args.cells (8 * c.args.cells + 128) (2 ^ h))
    c.halvings.ensures.value
