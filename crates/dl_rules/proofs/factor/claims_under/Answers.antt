-- The quotient is held, and the raised number admitted; or there is none.
use Rattle.dl_rules.proofs.Common.{◌≡◌, ◌∙◌, ◌||◌, ◌/ℚ◌, Bool, true, false, not, Option, refl, sym, subst, if◌then◌else◌, Some, None, Fraction, is_admitted, is_held, raised, is_coarse_under, SomeIff}
use Rattle.dl_rules.proofs.Shapes.{held_told}
use Rattle.dl_rules.proofs.factor.claims_under.Goals as goal

under : (held admitted : Bool) (x : Fraction) → not held ≡ false
    → SomeIff (if admitted then Some x else None) ((not held || not admitted) ≡ false) x
under true true x e = (refl, refl)
under true false x e = λ no. absurd cc
under false admitted x e = absurd cc

refused : (held admitted : Bool) → not held ≡ true → (not held || not admitted) ≡ false → ⊥
refused true admitted e h = absurd cc
refused false admitted e h = absurd cc

pub returns-then-is_err : goal.returns-then-is_err
returns-then-is_err c = λ none.
    let coarse : not (is_held (c.args.claims /ℚ c.args.shape)) ≡ true =
    sym (held_told _ (c.args.claims /ℚ c.args.shape) c.div.ensures) ∙ sym c.is_err.ensures.value ∙ c.if-is_err.true in
    refused (is_held (c.args.claims /ℚ c.args.shape)) (is_admitted (raised c.args.shape c.args.claims)) coarse none

pub returns : goal.returns
returns c =
    let held : not (is_held (c.args.claims /ℚ c.args.shape)) ≡ false =
    sym (held_told _ (c.args.claims /ℚ c.args.shape) c.div.ensures) ∙ sym c.is_err.ensures.value ∙ c.if-is_err.false in
    subst (λ (o : Option Fraction). SomeIff o (is_coarse_under c.args.shape c.args.claims ≡ false)
    (raised c.args.shape c.args.claims)) (sym (c.small.ensures _ c.raised.ensures))
    (under (is_held (c.args.claims /ℚ c.args.shape)) (is_admitted (raised c.args.shape c.args.claims))
    (raised c.args.shape c.args.claims) held)
