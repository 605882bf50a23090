-- Items of one number each.
use Rattle.dl_reading.proofs.Common.{◌≡◌, ◌∙◌, ℕ, ◌+◌, ◌/◌, ◌≤◌, List, [], ◌∷◌, true, false, map, flat_map, length, Option, Some, None, refl, sym, ap, ap₂, subst, arith, ◌&&◌, All, All-head, All-tail, and_parts, length-map, Fraction, whole, whole_num, Span, times_one, zero_times, div_times, range_values, ◌+ℚ◌, range_with_len, steps_in, value_at, Range, Numeral, ListItem, ListAst, IsFormedItem, IsSome, Flaws, Gridded, IsReadTo, flaws_else, flaws_in, flaws_of_numeral, flaws_of_item, flaws_of_list, range_of, value, value_or, spanned_item, spanned_values, Bounds, list_all, div-le_self, ◌/ℚ◌, flaws_within, range_at, at_if, is_no_range, Atom, IsFormedAtom, IsFormedList, sum_by, values_in, most_values, take, take_more, get_or, at_item, ◌<◌, long_at, ◌++◌}
use Rattle.std.specs.Prelude.{◌-◌, is_none, is_some}
use Rattle.dl_severity.specs.Ranges.{floor_of}
use Rattle.dl_exact.proofs.Laws.{le_refl, plus_zero, sub_nothing, whole_pos}
use Rattle.dl_reading.proofs.Agreeing.{flaws_none, read_longer}
use Rattle.dl_reading.proofs.Firsts.{keeps_limit}
use Rattle.dl_reading.proofs.ListLengths.{total_more}

-- ---- from a number to itself there is one value

abbrev range_with : Fraction → Fraction → Fraction → Range
range_with from to step = record { from = from; to = to; step = step }

none_between : (x : Fraction) → steps_in (range_with x x (whole 1)) ≡ 0
none_between x =
    let one : (y : Fraction) → y /ℚ whole 1 ≡ y =
    λ y. sym (times_one (y /ℚ whole 1)) ∙ div_times y (whole 1) (whole_pos 1 (omega arith)) in
    ap floor_of (ap (λ y. y /ℚ whole 1) (sub_nothing x x (le_refl x)) ∙ one (whole 0))
    ∙ ap (λ n. n / (whole 0).den) (whole_num 0) ∙ omega (arith, div-le_self 0 (whole 0).den)

alone : (x : Fraction) → range_values (range_with x x (whole 1)) ≡ x ∷ []
alone x =
    ap (λ n. map (value_at (range_with x x (whole 1))) (range_with_len 0 (n + 1))) (none_between x)
    ∙ ap (λ y. y ∷ []) (ap (λ y. x +ℚ y) (zero_times (whole 1)) ∙ plus_zero x)

-- ---- an item, and items

abbrev pub first_value : ListItem → Fraction × Span
first_value i = (value i.from, i.span)

abbrev pub first_flaws : ListItem → Flaws
first_flaws i = flaws_of_numeral i.from

-- without a last number there is no step
range_alone : (x : Fraction) (to step : Option Numeral) → (IsSome step → IsSome to) → is_none to ≡ true
    → range_with x (value_or x to) (value_or (whole 1) step) ≡ range_with x x (whole 1)
range_alone x None None beside one = refl
range_alone x None (Some n) beside one = absurd (let e : false ≡ true = beside refl in cc)
range_alone x (Some n) step beside one = absurd (cc)

item_values : (i : ListItem) → IsFormedItem i → is_none i.to ≡ true → spanned_item i ≡ first_value i ∷ []
item_values i formed one =
    ap (λ (r : Range). map (λ x. (x, i.span)) (range_values r)) (range_alone (value i.from) i.to i.step formed.beside one)
    ∙ ap (λ xs. map (λ x. (x, i.span)) xs) (alone (value i.from))

flaws_alone : (f : Flaws) (to step : Option Numeral) (r : Range) (span : Span) → (IsSome step → IsSome to) → is_none to ≡ true
    → flaws_else f (flaws_else (flaws_within flaws_of_numeral to) (flaws_else (flaws_within flaws_of_numeral step)
    (range_at (at_if (is_some to && is_no_range r) span)))) ≡ f
flaws_alone f None None r span beside one = flaws_none f
flaws_alone f None (Some n) r span beside one = absurd (let e : false ≡ true = beside refl in cc)
flaws_alone f (Some n) step r span beside one = absurd (cc)

pub values_single : (items : List ListItem) → All IsFormedItem items → list_all (λ i. is_none i.to) items ≡ true
    → flat_map spanned_item items ≡ map first_value items
values_single [] formed one = refl
values_single (i ∷ items) formed one =
    let tests = and_parts (is_none i.to) (list_all (λ j. is_none j.to) items) one in
    ap₂ (λ xs ys. xs ++ ys) (item_values i (All-head IsFormedItem i items formed) tests.0)
    (values_single items (All-tail IsFormedItem i items formed) tests.1)

flaws_single : (items : List ListItem) → All IsFormedItem items → list_all (λ i. is_none i.to) items ≡ true
    → flaws_in flaws_of_item items ≡ flaws_in first_flaws items
unfolding flaws_in
flaws_single [] formed one = refl
flaws_single (i ∷ items) formed one =
    let tests = and_parts (is_none i.to) (list_all (λ j. is_none j.to) items) one in
    let own = All-head IsFormedItem i items formed in
    ap₂ flaws_else (flaws_alone (first_flaws i) i.to i.step (range_of i) i.span own.beside tests.0)
    (flaws_single items (All-tail IsFormedItem i items formed) tests.1)

-- ---- a list

pub single_length : (l : ListAst) → IsFormedList l → list_all (λ i. is_none i.to) l.items ≡ true
    → length (spanned_values l) ≡ length l.items
single_length l formed one =
    ap (λ (xs : List (Fraction × Span)). length xs) (values_single l.items formed.items one) ∙ length-map l.items first_value

pub single_read : (bounds : Bounds) (l : ListAst) {made : Gridded (List (Fraction × Span))} → IsFormedList l
    → list_all (λ i. is_none i.to) l.items ≡ true → length l.items ≤ bounds.values
    → IsReadTo 1 (flaws_in first_flaws l.items) (map first_value l.items) made
    → IsReadTo 3 (flaws_of_list bounds l) (spanned_values l) made
single_read bounds l {made = made} formed one few read =
    let none = keeps_limit bounds.values (length (spanned_values l)) l.span (omega (arith, few, single_length l formed one)) in
    let own = flaws_in flaws_of_item l.items in
    subst (λ o. IsReadTo 3 (flaws_else own (long_at o)) (spanned_values l) made) none
    (rw (flaws_none own, flaws_single l.items formed.items one, values_single l.items formed.items one)
    (read_longer 1 3 (omega arith) read))

-- ---- the atoms of a mixture

-- one atom more, with the room that it leaves
pub few_more : (atoms : List Atom) (i room : ℕ) {a : Atom} {items : List ListItem} → All IsFormedAtom atoms → i < length atoms
    → a ≡ get_or atoms i a → items ≡ a.values.items → list_all (λ j. is_none j.to) items ≡ true → length items ≤ room
    → sum_by values_in (take i atoms) + room ≤ most_values
    → sum_by values_in (take (i + 1) atoms) + (room - length items) ≤ most_values
few_more atoms i room {a = a} formed lt at same one fits before =
    let own = at_item IsFormedAtom atoms atoms i a refl formed lt at in
    let more : take (i + 1) atoms ≡ take i atoms ++ a ∷ [] =
    take_more atoms i a lt ∙ ap (λ b. take i atoms ++ b ∷ []) (sym at) in
    rw more (omega (
      arith,
      before,
      fits,
      total_more values_in (take i atoms) a,
      single_length a.values own.values (rw same at one),
      ap (λ (xs : List ListItem). length xs) same,
    ))
