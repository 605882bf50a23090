-- The numerals of the range, and then the rule on ranges.
use Rattle.dl_reading.proofs.Common.{◌≡◌, ◌∙◌, ap, arith, refl, subst, Fraction, whole, at_if, flaws_else, Range, ListItem, IsReadTo, flaws_within, range_at, Flaws, Gridded, is_no_range, flaws_of_numeral, flaws_of_item, value, value_or, range_of}
use Rattle.std.specs.Prelude.{◌&&◌, is_some}
use Rattle.dl_reading.proofs.Agreeing.{read_longer, read_after, read_both, read_also, flaws_assoc}
use Rattle.dl_reading.proofs.numbers.item_range.Goals as goal

abbrev made_of : Fraction → Fraction → Fraction → Range
made_of from to step = record { from = from; to = to; step = step }

-- the last value is right only where the first is, which it is where it is missing
item_read : (i : ListItem) {from to step : Gridded Fraction} {tail numerals all : Flaws}
    → IsReadTo 1 (flaws_of_numeral i.from) (value i.from) from
    → IsReadTo 1 (flaws_within flaws_of_numeral i.to) (value_or from.part i.to) to
    → IsReadTo 1 (flaws_within flaws_of_numeral i.step) (value_or (whole 1) i.step) step
    → tail ≡ flaws_else to.flaws step.flaws → numerals ≡ flaws_else from.flaws tail
    → all ≡ flaws_else numerals
    (range_at (at_if (is_some i.to && is_no_range (made_of from.part to.part step.part)) i.span))
    → IsReadTo 2 (flaws_of_item i) (range_of i) (record { part = made_of from.part to.part step.part; flaws = all })
item_read i {from = from} {to = to} {step = step} {numerals = numerals} {all = all} first second third joined before is =
    let f = flaws_of_numeral i.from in
    let g = flaws_within flaws_of_numeral i.to in
    let h = flaws_within flaws_of_numeral i.step in
    let ranged : Range → Flaws = λ r. range_at (at_if (is_some i.to && is_no_range r) i.span) in
    let numbers = read_after 1 1 (λ (x : Fraction). flaws_else g h) (λ x. made_of x (value_or x i.to) (value_or (whole 1) i.step))
    (λ x r. r) (omega arith) first refl (read_both (made_of from.part) second third joined) before in
    let both = read_also 1 ranged numbers refl is in
    read_longer 1 2 (omega arith) (subst (λ t. IsReadTo 1 t (range_of i)
    (record { part = made_of from.part to.part step.part; flaws = all })) (flaws_assoc f (flaws_else g h) (ranged (range_of i))
    ∙ ap (flaws_else f) (flaws_assoc g h (ranged (range_of i)))) both)

pub returns : goal.returns
returns c =
    item_read c.args.item.now c.number-from.ensures.read c.number_or-to.ensures (rw c.whole.ensures at c.number_or-step.ensures)
    c.or.ensures c.or-numerals.ensures (rw (c.none.ensures, c.bad_range.ensures) at c.or-2.ensures)
