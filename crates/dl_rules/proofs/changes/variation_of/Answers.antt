-- A numeral that is read has a shape or none.
use Rattle.dl_rules.proofs.Common.{◌≡◌, ◌∙◌, ◌||◌, Bool, true, false, refl, sym, ap, or-true, value, is_bad_numeral, has_no_shape}
use Rattle.dl_rules.proofs.changes.variation_of.Goals as goal

pub numeral-requires-clause-spelled : goal.numeral-requires-clause-spelled
numeral-requires-clause-spelled c = rw c.as_slice.ensures c.requires

good_or : (bad rest : Bool) → (bad ≡ true → false ≡ true) → rest ≡ (bad || rest)
good_or true rest good = absurd (let e = good refl in cc)
good_or false rest good = refl

pub returns-then-has_no_shape : goal.returns-then-has_no_shape
returns-then-has_no_shape c =
    let same = rw c.as_slice.ensures at c.in-Ok.ensures.value in
    ap (λ b. is_bad_numeral c.args.variation.now || b)
    (sym (ap (has_no_shape c.args.bounds) same) ∙ sym c.has_no_shape.ensures ∙ c.if-has_no_shape.true)
    ∙ or-true (is_bad_numeral c.args.variation.now)

pub returns : goal.returns
returns c =
    let same = rw c.as_slice.ensures at c.in-Ok.ensures.value in
    let none : has_no_shape c.args.bounds c.in-Ok.value ≡ false = sym c.has_no_shape.ensures ∙ c.if-has_no_shape.false in
    record {
      good = sym (rw c.as_slice.ensures at
          (good_or _ (has_no_shape c.args.bounds (value c.args.variation.now)) c.in-Ok.ensures.bad.1))
          ∙ sym (ap (has_no_shape c.args.bounds) same) ∙ none;
      value = same;
    }

pub returns-in_default : goal.returns-in_default
returns-in_default c =
    rw c.as_slice.ensures at (ap (λ b. b || has_no_shape c.args.bounds (value c.args.variation.now))
    (c.in_default.ensures.bad.0 refl))
