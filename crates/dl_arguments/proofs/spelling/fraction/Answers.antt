-- The numeral's own test is the one of the words.
use Rattle.dl_arguments.proofs.Common.{rules, ◌≡◌, ◌∙◌, true, false, refl, sym, ap, subst, IsNumeral, is_bad, is_numeral, false_from_ne_true}
use Rattle.dl_arguments.proofs.spelling.fraction.Goals as goal

pub returns-then-not-is_numeral : goal.returns-then-not-is_numeral
returns-then-not-is_numeral c =
    let bytes : c.as_bytes.result.now ≡ c.args.text.now = search rules in
    let no : is_numeral c.args.text.now ≡ false = ap is_numeral (sym bytes)
    ∙ sym c.is_numeral.ensures.test ∙ c.if-not-is_numeral.true in
    rw no refl

pub numeral-requires-clause-spelled : goal.numeral-requires-clause-spelled
numeral-requires-clause-spelled c =
    let bytes : c.as_bytes.result.now ≡ c.as_bytes-2.result.now = search rules in
    subst IsNumeral bytes (c.is_numeral.ensures.spelled.0 c.if-not-is_numeral.false)

pub returns-in-Ok : goal.returns-in-Ok
returns-in-Ok c =
    let bytes : c.as_bytes.result.now ≡ c.args.text.now = search rules in
    let again : c.as_bytes-2.result.now ≡ c.args.text.now = search rules in
    let yes : is_numeral c.args.text.now ≡ true = ap is_numeral (sym bytes)
    ∙ sym c.is_numeral.ensures.test ∙ c.if-not-is_numeral.false in
    let good : is_bad c.args.digits c.args.text.now ≡ false = ap (is_bad c.args.digits) (sym again)
    ∙ false_from_ne_true (is_bad c.args.digits c.as_bytes-2.result.now)
    (λ h. absurd (let e : false ≡ true = c.in-Ok.ensures.bad.1 h in cc)) in
    rw (yes, good, ← again, ← c.in-Ok.ensures.value) refl
