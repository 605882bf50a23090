-- The mean of the extra claims is admitted, or there is no such unit.
use Rattle.dl_pool.proofs.Common.{refl, sym, subst, given_value, whole, ◌≤ℚ◌, HasPartsOf48Bits, ◌*ℚ◌, ◌-ℚ◌, probability_of, most_expected}
use Rattle.dl_pool.proofs.GammaUnits.{shape_above, extra_mean, extra_valid}
use Rattle.dl_pool.proofs.extras.extra.Goals as goal

pub div-requires : goal.div-requires
div-requires c = shape_above _ _ _ c.in-Gamma.is c.requires.valid.1.count

pub returns-then-not-are_admitted-clause-there : goal.returns-then-not-are_admitted-clause-there
returns-then-not-are_admitted-clause-there c claims above few =
    let unit = c.args.unit.now in
    let value = extra_mean unit.freq c.in-Gamma.shape c.in-Gamma.mean c.in-Ok.mean c.in-Gamma.is
    (given_value _ _ c.in-Ok.mean c.div.ensures c.in-Ok.is) in
    c.if-not-are_admitted.ensures.there (subst HasPartsOf48Bits (sym value) claims)
    (subst (λ t. HasPartsOf48Bits (t *ℚ (whole 1 -ℚ probability_of unit.sev 0))) (sym value) above)
    (subst (λ t. t *ℚ (whole 1 -ℚ probability_of unit.sev 0) ≤ℚ whole most_expected) (sym value) few)

pub returns-clause-valid : goal.returns-clause-valid
returns-clause-valid c cells valid = extra_valid cells c.args.unit.now _ c.whole.result c.in-Ok.mean valid
    c.in_ok-sev.ensures.items c.in_ok-sev.ensures.total refl c.whole.ensures refl refl
    (c.if-not-are_admitted.ensures.claims refl) (c.if-not-are_admitted.ensures.above refl)
    (c.if-not-are_admitted.ensures.few refl)
