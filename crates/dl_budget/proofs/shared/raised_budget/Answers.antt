-- The one gamma count for the next shape can be counted with.
use Rattle.dl_budget.proofs.Common.{◌+ℚ◌, ◌∙◌, arith, ap, sym, given_value, raised, IsGammaOn, subst₂}
use Rattle.dl_budget.proofs.SharedUnits.{raised_on}
use Rattle.dl_budget.proofs.shared.raised_budget.Goals as goal

pub gamma_budget-requires-clause-count : goal.gamma_budget-requires-clause-count
gamma_budget-requires-clause-count g c =
    let claims = given_value _ _ c.unwrap-claims.result c.raised.ensures c.unwrap-claims.ensures
    ∙ ap (raised c.args.shape) c.above_zero.ensures in
    let next = given_value _ _ c.unwrap-next.result c.add.ensures c.unwrap-next.ensures
    ∙ ap (λ t. c.args.shape +ℚ t) c.whole.ensures in
    subst₂ (IsGammaOn c.args.cells) (sym next) (sym claims)
    (raised_on c.args.cells c.args.shape c.args.units.now (omega (arith, c.requires.few)) c.requires.factor)
