-- Where a part is too fine, the product is not admitted.
use Rattle.dl_rules.proofs.Common.{◌≡◌, ◌∙◌, Some, true, ap, ap₂, sym, subst, Fraction, ◌over◌, ◌*ℚ◌, whole, IsTooFine, admitted}
use Rattle.dl_rules.proofs.Ratios.{first_too_fine, second_too_fine, product_value, nothing_left, nothing_right, zero_admitted, above_zero}
use Rattle.dl_rules.proofs.ratio.Ratio.times.Goals as goal
use Rattle.dl_rules.proofs.ratio.Ratio.times.Goals.{then-self-eq0-via-then-self-eq0, then-self-eq0-via-else-self-eq0+then-o-eq0}

pub returns-then-self-eq0 : goal.returns-then-self-eq0
returns-then-self-eq0 c =
    let zero : c.args.self *ℚ c.args.o ≡ whole 0 = elim c.then-self-eq0.branch [
      | then-self-eq0-via-then-self-eq0 w ↦ nothing_left c.args.self c.args.o
          (sym (ap (λ (z : Fraction). z.num) c.self.view_is) ∙ w.if-self-eq0.true)
      | then-self-eq0-via-else-self-eq0+then-o-eq0 w ↦ nothing_right c.args.self c.args.o
          (sym (ap (λ (z : Fraction). z.num) c.o.view_is) ∙ w.if-o-eq0.true)
    ] in
    ap (λ z. Some z) c.whole.ensures ∙ zero_admitted ∙ ap (admitted true) (sym zero)

pub returns-in_default : goal.returns-in_default
returns-in_default c =
    first_too_fine c.args.self c.args.o (above_zero _ _ c.if-o-eq0.false (ap (λ (z : Fraction). z.num) c.o.view_is))
    (subst IsTooFine (ap₂ (λ n d. n over d) (ap (λ (z : Fraction). z.num) c.self.view_is)
    (ap (λ (z : Fraction). z.den) c.o.view_is)) c.in_default.ensures)

pub returns-in_default-make : goal.returns-in_default-make
returns-in_default-make c =
    second_too_fine c.args.self c.args.o (above_zero _ _ c.if-self-eq0.false
    (ap (λ (z : Fraction). z.num) c.self.view_is))
    (subst IsTooFine (ap₂ (λ n d. n over d) (ap (λ (z : Fraction). z.num) c.o.view_is)
    (ap (λ (z : Fraction). z.den) c.self.view_is)) c.in_default-make.ensures)

pub returns : goal.returns
returns c =
    let product = ap₂ (λ a b. a *ℚ b)
    (c.in-Ok.ensures.0 ∙ ap₂ (λ n d. n over d) (ap (λ (z : Fraction). z.num) c.self.view_is)
    (ap (λ (z : Fraction). z.den) c.o.view_is))
    (c.in-Ok-make.ensures.0 ∙ ap₂ (λ n d. n over d) (ap (λ (z : Fraction). z.num) c.o.view_is)
    (ap (λ (z : Fraction). z.den) c.self.view_is)) ∙ product_value c.args.self c.args.o in
    c.small.ensures _ c.mul.ensures ∙ ap (admitted true) product
