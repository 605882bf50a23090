-- What good numbers and good ranges say of the values of a list: there are some, but not too many, and their parts are small.
use Rattle.dl_reading.proofs.Common.{◌≡◌, ℕ, zero, suc, ◌+◌, ◌<◌, ◌≤◌, List, [], ◌∷◌, Bool, true, false, map, flat_map, length, Option, Some, None, refl, sym, subst, arith, nat_lt, All, nat_tests, All-nil, All-cons, All-head, All-tail, All-append, All-map, length-map, Fraction, whole, whole_num, Span, is_above, IsClean, not_at, most_range_parts, HasPartsOf18Digits, IsRange, steps_in, value_at, range_values, range_denominator, Range, Numeral, ListItem, ListAst, IsFormedItem, IsFormedList, flaws_within, flaws_in, grid_list, flaws_of_numeral, is_no_range, flaws_of_item, flaws_of_list, value, value_or, range_of, spanned_item, spanned_values, Bounds, AreBounds, range_with_len, IsSome, div-mul-le_self, div-le_self, ltb-false, ◌over◌, ◌≤ℚ◌, ◌<ℚ◌, numeral_small, numerator_over, is_zero, IsSmall, IsValueList}
use Rattle.std.proofs.Common.{inl, inr, ◌*◌, ◌/◌, ◌-◌, ◌^◌, ◌||◌, ◌&&◌, is_some, mul-le-mul, mul-le-mul_right, length-append}
use Rattle.dl_exact.proofs.Laws.{le_refl}
use Rattle.dl_exact.proofs.Parts.{pos_num, over_num_le as num_of_over-le, over_den_le as den_of_over-le}
use Rattle.dl_severity.proofs.Ranged.{pos, rising, steps_are, value_is, one_value, values_length}
use Rattle.dl_reading.proofs.Values.{not_above, zero_above}
use Rattle.dl_reading.proofs.Clean.{each_none, clean_first, clean_second, clean_each}

-- ---- the range of an item

three_tests : (a b : Bool) (n : ℕ) → (a || b || nat_lt most_range_parts n) ≡ false
    → (a ≡ false) × (b ≡ false) × (n ≤ most_range_parts)
three_tests a b n h = grind (arith, nat_tests, h)

range_is : (b : Bool) (r : Range) → IsSmall r.to → (b ≡ false → (r.from ≡ r.to) × (r.step ≡ whole 1))
    → (b && is_no_range r) ≡ false → IsRange r
range_is true r to alone passed =
    let tests = three_tests (is_above r.from r.to) (is_zero r.step) _ passed in
    record {
      rising = not_above r.from r.to tests.0;
      step = pos_num r.step (zero_above r.step.num tests.1);
      digits = to.num;
      shared = inr tests.2;
    }
range_is false r to alone passed =
    let one = alone refl in
    record {
      rising = subst (λ x. r.from ≤ℚ x) one.0 (le_refl r.from);
      step = subst (λ x. whole 0 <ℚ x) (sym one.1) (pos_num (whole 1) (omega (arith, whole_num 1)));
      digits = to.num;
      shared = inl one.0;
    }

-- ---- the numbers of an item

pub number_is : (n : Numeral) → IsClean (flaws_of_numeral n) → IsSmall (value n)
number_is n clean =
    let small = numeral_small 9 n.text (not_at _ n.span (each_none _ clean).numeral) in
    record { num = small.num; den = small.den }

number_or : (x : Fraction) (o : Option Numeral) → IsSmall x → IsClean (flaws_within flaws_of_numeral o)
    → IsSmall (value_or x o)
number_or x None small clean = small
number_or x (Some n) small clean = number_is n clean

alone_is : (from : Fraction) (to step : Option Numeral) → (IsSome step → IsSome to) → is_some to ≡ false
    → (from ≡ value_or from to) × (value_or (whole 1) step ≡ whole 1)
alone_is from None None beside one = (refl, refl)
alone_is from None (Some n) beside one = absurd (let e : false ≡ true = beside refl in cc)
alone_is from (Some n) step beside one = absurd (cc)

pub first_is : (i : ListItem) → IsClean (flaws_of_item i) → IsSmall (value i.from)
first_is i clean = number_is i.from (clean_first (flaws_of_numeral i.from) _ clean)

pub item_is : (i : ListItem) → IsFormedItem i → IsClean (flaws_of_item i) → IsRange (range_of i)
item_is i formed clean =
    let later = clean_second (flaws_of_numeral i.from) _ clean in
    let rest = clean_second (flaws_within flaws_of_numeral i.to) _ later in
    let ranged = clean_second (flaws_within flaws_of_numeral i.step) _ rest in
    range_is (is_some i.to) (range_of i)
    (number_or (value i.from) i.to (first_is i clean) (clean_first (flaws_within flaws_of_numeral i.to) _ later))
    (alone_is (value i.from) i.to i.step formed.beside) (not_at _ i.span (each_none _ ranged).range)

-- ---- the values of an item are small

modest_over : (n d : ℕ) → 0 < d → n ≤ 10 ^ 17 → d ≤ 10 ^ 6 → HasPartsOf18Digits (n over d)
modest_over n d pos num den =
    record { num = omega (arith, num_of_over-le n d pos, num); den = omega (arith, den_of_over-le n d pos, den) }

module _ (r : Range) (range : IsRange r) (shared : range_denominator r ≤ 1000000) where
  abbrev common : ℕ
  common = range_denominator r

  -- up to the last step no value passes the last number
  value_modest : (k : ℕ) → k ≤ steps_in r → HasPartsOf18Digits (value_at r k)
  value_modest k h =
      let from = numerator_over common r.from in
      let to = numerator_over common r.to in
      let step = numerator_over common r.step in
      let num : r.to.num ≤ 10 ^ 11 = omega (arith, range.digits) in
      let part : common / r.to.den ≤ 1000000 = omega (arith, div-le_self common r.to.den, shared) in
      let top : to ≤ 10 ^ 11 * 1000000 = mul-le-mul num part in
      let steps : k ≤ (to - from) / step = subst (λ n. k ≤ n) (steps_are r range common refl) h in
      let within : from + k * step ≤ to = omega (
        arith,
        mul-le-mul_right step steps,
        div-mul-le_self (to - from) step,
        rising r range common refl,
      ) in
      subst HasPartsOf18Digits (sym (value_is r range common refl k))
      (modest_over (from + k * step) common (pos r range common refl) (omega (arith, within, top))
      (omega (arith, shared)))

pub small_modest : (x : Fraction) → IsSmall x → HasPartsOf18Digits x
small_modest x small = record { num = omega (arith, small.num); den = omega (arith, small.den) }

all_values : (f : ℕ → Fraction) (P : Fraction → Type 0) (n a : ℕ) → ((k : ℕ) → k < a + n → P (f k))
    → All P (map f (range_with_len a n))
all_values f P zero a h = All-nil P
all_values f P (suc n) a h =
    All-cons P (f a) (map f (range_with_len (a + 1) n)) (h a (omega arith))
    (all_values f P n (a + 1) (λ k lt. h k (omega (arith, lt))))

range_modest : (r : Range) → IsRange r → IsSmall r.from → All HasPartsOf18Digits (range_values r)
range_modest r range small = elim range.shared [
  | inl one ↦ subst (λ ys. All HasPartsOf18Digits ys) (sym (one_value r range one))
      (All-cons HasPartsOf18Digits r.from [] (small_modest r.from small) (All-nil HasPartsOf18Digits))
  | inr shared ↦ all_values (value_at r) HasPartsOf18Digits (steps_in r + 1) 0
      (λ k lt. value_modest r range shared k (omega (arith, lt)))
]

pub all_joined : {X A : Type 0} (P : A → Type 0) (g : X → List A) (xs : List X) → All (λ x. All P (g x)) xs
    → All P (flat_map g xs)
all_joined P g [] all = All-nil P
all_joined P g (x ∷ xs) all =
    All-append P (g x) (flat_map g xs) (All-head (λ y. All P (g y)) x xs all)
    (all_joined P g xs (All-tail (λ y. All P (g y)) x xs all))

pub item_modest : (i : ListItem) → IsFormedItem i → IsClean (flaws_of_item i)
    → All (λ pair. HasPartsOf18Digits pair.0) (spanned_item i)
item_modest i formed clean = All-map (λ pair. HasPartsOf18Digits pair.0) (λ x. (x, i.span)) (range_values (range_of i))
    (range_modest (range_of i) (item_is i formed clean) (first_is i clean))

-- a list has at least as many values as items
pub enough : (items : List ListItem) → length items ≤ length (flat_map spanned_item items)
enough [] = omega arith
enough (i ∷ items) =
    omega (
      arith,
      enough items,
      length-append (spanned_item i) (flat_map spanned_item items),
      length-map {B = Fraction × Span} (range_values (range_of i)) (λ x. (x, i.span)),
      values_length (range_of i),
    )

-- ---- lists

pub list_few : (bounds : Bounds) (l : ListAst) → IsClean (flaws_of_list bounds l) → length (spanned_values l) ≤ bounds.values
list_few bounds l clean =
    ltb-false bounds.values (length (spanned_values l))
    (not_at _ l.span (each_none _ (clean_second (flaws_in flaws_of_item l.items) _ clean)).long)

pub list_is : (bounds : Bounds) → AreBounds bounds → (l : ListAst) → IsFormedList l → IsClean (flaws_of_list bounds l) → IsValueList (grid_list l)
list_is bounds within l formed clean =
    let each = length-map (spanned_values l) (λ pair. pair.0) in
    let items = clean_each flaws_of_item l.items (clean_first (flaws_in flaws_of_item l.items) _ clean) in
    record {
      some = omega (arith, each, enough l.items, formed.some);
      few = omega (arith, each, within.values, list_few bounds l clean);
      modest = All-map HasPartsOf18Digits (λ pair. pair.0) (spanned_values l)
          (all_joined (λ pair. HasPartsOf18Digits pair.0) spanned_item l.items
          (λ k d h. item_modest _ (formed.items k d h) (items k d h)));
    }
