use Rattle.dl_cert.proofs.Common.{◌≡◌, ◌≤◌, ◌∙◌, ap, Some, None, MatchOption, All, Option, IfOk-weaker, Fraction, whole_num, UnitOfPlan, Sev, pairs_of, conditioned, HasDistribution, thinned_mean, no_amount_thinned}
use Rattle.dl_cert.proofs.units.positive_claims.Goals as goal

kept : (unit : UnitOfPlan) (made : Option Sev)
    → MatchOption made (All (λ item. item.amount ≤ 0) unit.sev.items)
    (λ sev. HasDistribution sev (conditioned 0 (pairs_of unit.sev)))
    → MatchOption made ((thinned_mean unit).num ≡ 0) (λ sev. HasDistribution sev (conditioned 0 (pairs_of unit.sev)))
kept unit None none = ap (λ (x : Fraction). x.num) (no_amount_thinned unit none) ∙ whole_num 0
kept unit (Some sev) means = means

pub returns : goal.returns
returns c = IfOk-weaker c.positive.result _ _ (λ made is. kept c.args.unit.now made is) c.positive.ensures
