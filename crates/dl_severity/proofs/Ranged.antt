-- The numbers of a range over one denominator.
use Rattle.dl_severity.proofs.Common.{ℕ, zero, suc, ◌≡◌, ◌∙◌, ◌+◌, ◌-◌, ◌*◌, ◌/◌, ◌<◌, ◌≤◌, ◌^◌, List, [], ◌∷◌, ◌++◌, length, map, take, refl, sym, ap, ap₂, subst, arith, mul-pos, mul-le-mul, length-append, append_assoc, get_or, true, nat_eq, All, range_with_len, take_more, append-nil, length-map-range_with_len, ◌∣◌, Fraction, whole, ◌over◌, ◌+ℚ◌, ◌*ℚ◌, ◌<ℚ◌, over_self, over_same, over_mul, le_over, lt_over, FitsFrac, common_pos, den_divides, over_plus, over_fits, numerator_over, steps_in, value_at, list_values, drop, mul-le-mul_right, le_of_mul-le-mul_right, mul_comm, ◌&&◌, mul-sub, div-mul-le_self, div-le_self, take-append-drop, map-range_with_len_more, flat_map-append, most_range_parts, same, over_sub, over_div, floor_div, floor_one, Range, ExpandFault, floor_of, range_values, range_denominator, IsRange, RefusesRanges, PassesRoom}
use Rattle.dl_exact.specs.Prelude.{◌-ℚ◌, ◌/ℚ◌, ◌≤ℚ◌, IsFloor}
use Rattle.dl_severity.specs.declared.fault.ExpandFault.TheVariants.{TooLong, OutOfMemory}
use Rattle.dl_severity.proofs.Sharing.{share_is}

floor_over : (n d : ℕ) → 0 < d → floor_of (n over d) ≡ n / d
floor_over n d h =
    let x : Fraction = n over d in
    floor_one x (floor_of x) (n / d) (subst (λ y. IsFloor y (floor_of x)) (over_self x)
    (floor_div x.num x.den x.positive)) (floor_div n d h)

minus_over : (t f c : ℕ) → 0 < c → t over c -ℚ f over c ≡ (t - f) over c
minus_over t f c h =
    over_sub t c f c h h
    ∙ over_same (t * c - f * c) (c * c) (t - f) c (mul-pos h h) h
    (turn (t - f) c (t * c - f * c) (mul-sub c t f ∙ ap₂ (λ a b. a - b) (mul_comm c t) (mul_comm c f)))
  where
    turn : (e k n : ℕ) → k * e ≡ n → n * k ≡ e * (k * k)
    turn e k n h = omega (arith, ap (λ m. m * k) h)

ratio_over : (e s c : ℕ) → 0 < c → 0 < s → e over c /ℚ s over c ≡ e over s
ratio_over e s c h p = over_div e c s c h h p ∙ over_same (e * c) (c * s) e s (mul-pos h p) p (omega arith)

module _ (r : Range) (range : IsRange r) (c : ℕ) (common : c ≡ range_denominator r) where
  abbrev numbers : List Fraction
  numbers = r.from ∷ r.to ∷ r.step ∷ []

  pub pos : 0 < c
  pos = subst (λ n. 0 < n) (sym common) (common_pos numbers)

  divides : All (λ x. x.den ∣ c) numbers
  divides = subst (λ n. All (λ x. x.den ∣ n) numbers) (sym common) (den_divides 1 numbers)

  abbrev F : ℕ
  F = numerator_over c r.from

  abbrev T : ℕ
  T = numerator_over c r.to

  abbrev S : ℕ
  S = numerator_over c r.step

  from_is : r.from ≡ F over c
  from_is = sym (share_is r.from c pos (divides zero r.from (omega arith)))

  to_is : r.to ≡ T over c
  to_is = sym (share_is r.to c pos (divides (suc zero) r.from (omega arith)))

  step_is : r.step ≡ S over c
  step_is = sym (share_is r.step c pos (divides (suc (suc zero)) r.from (omega arith)))

  pub rising : numerator_over c r.from ≤ numerator_over c r.to
  rising = le_of_mul-le-mul_right (le_over F c T c pos pos
      (subst (λ y. F over c ≤ℚ y) to_is (subst (λ y. y ≤ℚ r.to) from_is range.rising))) pos

  pub step_pos : 0 < numerator_over c r.step
  step_pos = omega (arith, lt_over 0 1 S c (omega arith) pos (subst (λ y. whole 0 <ℚ y) step_is range.step))

  pub steps_are : steps_in r ≡ (numerator_over c r.to - numerator_over c r.from) / numerator_over c r.step
  steps_are =
      ap floor_of (ap₂ (λ x y. (x -ℚ y) /ℚ r.step) to_is from_is ∙ ap (λ s. (T over c -ℚ F over c) /ℚ s) step_is
      ∙ ap (λ y. y /ℚ S over c) (minus_over T F c pos) ∙ ratio_over (T - F) S c pos step_pos)
      ∙ floor_over (T - F) S step_pos

  pub value_is : (k : ℕ) → value_at r k ≡ (numerator_over c r.from + k * numerator_over c r.step) over c
  value_is k =
      ap₂ (λ x s. x +ℚ whole k *ℚ s) from_is step_is
      ∙ ap (λ y. F over c +ℚ y) (over_mul k 1 S c (omega arith) pos
      ∙ over_same (k * S) (1 * c) (k * S) c (omega (arith, pos)) pos (omega arith))
      ∙ over_plus F (k * S) c pos

  -- up to the last step no value passes the last number
  within : (k : ℕ) → k ≤ (T - F) / S → F + k * S ≤ T
  within k h = omega (arith, mul-le-mul_right S h, div-mul-le_self (T - F) S, rising)

  top : c ≤ most_range_parts → T ≤ 10 ^ 11 * most_range_parts
  top small =
      let num : r.to.num ≤ 10 ^ 11 = omega (arith, range.digits) in
      let part : c / r.to.den ≤ most_range_parts = omega (arith, div-le_self c r.to.den, small) in
      mul-le-mul num part

  pub term_fits : (f s t k : ℕ) → f ≡ numerator_over c r.from → s ≡ numerator_over c r.step
      → t ≡ numerator_over c r.to → c ≤ most_range_parts → k < (t - f) / s + 1 → f + k * s < 2 ^ 128
  term_fits f s t k is_f is_s is_t small h =
      let here : k < (T - F) / S + 1 = rw (← is_f, ← is_s, ← is_t) h in
      rw (is_f, is_s) (omega (arith, within k (omega (arith, here)), top small))

  pub value_fits : (k : ℕ) → c ≤ most_range_parts → k ≤ (numerator_over c r.to - numerator_over c r.from) /
      numerator_over c r.step
      → FitsFrac ((numerator_over c r.from + k * numerator_over c r.step) over c)
  value_fits k small h =
      over_fits _ c pos (omega (arith, within k h, top small)) (omega (arith, small))

pub values_length : (r : Range) → length (range_values r) ≡ steps_in r + 1
values_length r = length-map-range_with_len (value_at r) 0 (steps_in r + 1)

-- from a number to itself there is one value
pub one_value : (r : Range) → IsRange r → r.from ≡ r.to → range_values r ≡ r.from ∷ []
one_value r range same =
    let c = range_denominator r in
    let none : steps_in r ≡ 0 = steps_are r range c refl
    ∙ ap (λ n. n / numerator_over c r.step) (omega (arith, ap (numerator_over c) same))
    ∙ nothing_over (numerator_over c r.step) in
    ap (λ n. map (value_at r) (range_with_len 0 (n + 1))) none
    ∙ ap (λ y. y ∷ []) (value_is r range c refl zero ∙ ap (λ n. n over c) (omega arith)
    ∙ share_is r.from c (common_pos (r.from ∷ r.to ∷ r.step ∷ []))
    (den_divides 1 (r.from ∷ r.to ∷ r.step ∷ []) zero r.from (omega arith)))
  where
    nothing_over : (s : ℕ) → 0 / s ≡ 0
    nothing_over s = omega (arith, div-le_self 0 s)

-- ---- what is refused

pub refuses : (most : ℕ) (items : List Range) (n : ℕ) (r : Range) (fault : ExpandFault) → PassesRoom most n r fault
    → n + length (range_values r) ≤ length (list_values items) → RefusesRanges most items fault
refuses most items n r TooLong passes h = omega (arith, passes, h)
refuses most items n r OutOfMemory passes h = tt

pub part_le : (items : List Range) (i : ℕ) → length (list_values (take i items)) ≤ length (list_values items)
part_le items i =
    let parts : list_values items ≡ list_values (take i items) ++ list_values (drop i items) =
    ap list_values (sym (take-append-drop i items)) ∙ flat_map-append range_values (take i items) (drop i items) in
    omega (
      arith,
      ap (λ (xs : List Fraction). length xs) parts,
      length-append (list_values (take i items))
          (list_values (drop i items)),
    )

-- ---- common denominators that are found

-- ---- one more

pub list_more : (items : List Range) (i : ℕ) (r : Range) → i < length items → r ≡ get_or items i r
    → list_values (take (i + 1) items) ≡ list_values (take i items) ++ range_values r
list_more items i r h is =
    ap list_values (take_more items i r h) ∙ flat_map-append range_values (take i items) (get_or items i r ∷ [])
    ∙ ap (λ ys. list_values (take i items) ++ ys)
    (append-nil (range_values (get_or items i r)) ∙ ap range_values (sym is))

pub more_fits : (items : List Range) (i : ℕ) (r : Range) (values : List Fraction) → i < length items
    → r ≡ get_or items i r → values ≡ list_values (take i items)
    → length values + length (range_values r) ≤ length (list_values items)
more_fits items i r values h is so_far =
    omega (
      arith,
      ap (λ (xs : List Fraction). length xs) so_far,
      ap (λ (xs : List Fraction). length xs) (list_more items i r h is),
      length-append (list_values (take i items)) (range_values r),
      part_le items (i + 1),
    )

pub steps_more : (r : Range) (start old new : List Fraction) (k : ℕ) (x : Fraction)
    → old ≡ start ++ map (value_at r) (range_with_len 0 k) → new ≡ old ++ x ∷ [] → x ≡ value_at r k
    → new ≡ start ++ map (value_at r) (range_with_len 0 (k + 1))
steps_more r start old new k x before pushed value =
    pushed ∙ ap₂ (λ ys y. ys ++ y ∷ []) before value
    ∙ append_assoc start (map (value_at r) (range_with_len 0 k)) (value_at r k ∷ [])
    ∙ ap (λ ys. start ++ ys) (sym (map-range_with_len_more (value_at r) 0 k k (omega arith)))

-- ---- equal numbers

pub equal_if : (x y : Fraction) → true ≡ (nat_eq x.num y.num && nat_eq x.den y.den) → x ≡ y
equal_if x y e = same x y (grind arith) (grind arith)
