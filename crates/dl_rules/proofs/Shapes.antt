-- Shapes of gamma factors: 1 over the square of a coefficient of variation, and numbers of claims over a shape.
use Rattle.dl_rules.proofs.Common.{ℕ, ◌≡◌, ◌∙◌, ◌+◌, ◌*◌, ◌<◌, ◌≤◌, ◌==◌, ◌&&◌, ◌||◌, nat_lt, Bool, true, false, not, inl, inr, refl, sym, ap, ap₂, subst, arith, mul-pos, ◌∣◌, gcd, Option, Some, None, IfSome, Fraction, whole, ◌over◌, ◌+ℚ◌, ◌*ℚ◌, ◌/ℚ◌, ◌<ℚ◌, lowest_swap, lowest_times, lowest_product, lowest_den, product_is, quotient_is, sum_is, is_whole, is_zero, is_above, is_admitted, is_held, is_there_and, shape_of, passes, zero_above, eq-one_of_dvd-one, eq-zero-or-pos, dvd-mul_right, eqb-true, eq-eqb, num_pos, or_parts, and_parts, not-false, not_above, admitted, if◌then◌else◌, Result, Ok, Err, ◌⊎◌, HasPartsOf48Bits, FitsFrac, IsShape, IsGammaCount, IsThinnedGamma, IsShaped, most_shape, most_beta, admitted_bound, frac_bound, rarest_claims, has_no_shape, shape_too_fine, is_coarse_over, is_shape_large, is_one_rare, ltb-true, ltb-false, num_of_over-le, den_of_over-le, mul-le-mul_left, Bounds, lt-ltb, over_self, over_mul, over_div, over_same, lt_over, over_lt, is_err, Gives}
use Rattle.std.specs.Cmp.{both_ways}
use Rattle.dl_rules.proofs.ListedCounts.{passes_is}

-- ---- 1 over a square

-- 1 over the square of n over d is the square of d over that of n
module _ (c : Fraction) (above : 0 < c.num) where
  squares : gcd (c.den * c.den) (c.num * c.num) ≡ 1
  squares =
      let once : gcd c.den (c.num * c.num) ≡ 1 = lowest_times c.den c.num c.num above (lowest_swap c.num c.den c.lowest)
      (lowest_swap c.num c.den c.lowest) in
      lowest_product c.den c.den (c.num * c.num) (mul-pos above above) once once

  shape_is : shape_of c ≡ (c.den * c.den) over (c.num * c.num)
  shape_is =
      ap (λ x. whole 1 /ℚ x) (sym (product_is c c))
      ∙ over_div 1 1 (c.num * c.num) (c.den * c.den) (omega arith) (mul-pos c.positive c.positive) (mul-pos above above)
      ∙ ap₂ (λ n d. n over d) (once (c.den * c.den)) (once (c.num * c.num))
    where
      once : (n : ℕ) → 1 * n ≡ n
      once n = omega arith

  shape_den : (shape_of c).den ≡ c.num * c.num
  shape_den = ap (λ (x : Fraction). x.den) shape_is ∙ lowest_den (c.den * c.den) (c.num * c.num)
      (mul-pos above above) squares

-- by the parts of the coefficient
pub shape_over : (c : Fraction) (n d : ℕ) → is_zero c ≡ false → n ≡ c.num → d ≡ c.den
    → (d * d) over (n * n) ≡ shape_of c
shape_over c n d some pn pd =
    ap₂ (λ a b. (b * b) over (a * a)) pn pd ∙ sym (shape_is c (zero_above c.num some))

pub shape_above : (c : Fraction) → is_zero c ≡ false → whole 0 <ℚ shape_of c
shape_above c some =
    let above : 0 < c.num = zero_above c.num some in
    subst (λ x. whole 0 <ℚ x) (sym (shape_is c above))
    (over_lt 0 1 (c.den * c.den) (c.num * c.num) (omega arith) (mul-pos above above)
    (omega (arith, mul-pos c.positive c.positive)))

one_only : (n : ℕ) → n * n ≡ 1 → n ≡ 1
one_only n h = eq-one_of_dvd-one (subst (λ k. n ∣ k) h (dvd-mul_right n n))

one_squared : (n : ℕ) → (n == 1) ≡ (n * n == 1)
one_squared n = both_ways _ _ (λ t. eq-eqb (n * n) 1 (ap (λ k. k * k) (eqb-true n 1 t)))
    (λ t. eq-eqb n 1 (one_only n (eqb-true (n * n) 1 t)))

-- a coefficient without a whole shape is 0, or not 1 over a whole number
pub no_shape : (c : Fraction) (n : ℕ) (w : Bool) → n ≡ c.num
    → ((n == 0) || (w && not (n == 1))) ≡ (is_zero c || (w && not (is_whole (shape_of c))))
no_shape c n w is = ap (λ k. (k == 0) || (w && not (k == 1))) is ∙ (elim (eq-zero-or-pos c.num) [
  | inl none ↦ by_zero c.num none (w && not (c.num == 1)) (w && not (is_whole (shape_of c)))
  | inr above ↦ ap (λ b. (c.num == 0) || (w && not b))
      (one_squared c.num ∙ ap (λ d. d == 1) (sym (shape_den c above)))
])
  where
    by_zero : (n : ℕ) → n ≡ 0 → (a b : Bool) → ((n == 0) || a) ≡ ((n == 0) || b)
    by_zero n e a b = rw e refl

-- ---- tests of quotients

above_over : (a b n d : ℕ) → 0 < b → 0 < d → nat_lt (n * b) (a * d) ≡ is_above (a over b) (n over d)
unfolding ◌<ℚ◌
above_over a b n d hb hd = both_ways _ _
    (λ t. lt-ltb _ _ (over_lt n d a b hd hb (ltb-true _ _ t)))
    (λ t. lt-ltb _ _ (lt_over n d a b hd hb (ltb-true _ _ t)))

-- a number over a shape passes a limit
pub over_shape : (x r : Fraction) (most : ℕ) → 0 < r.num
    → nat_lt (most * x.den * r.num) (x.num * r.den) ≡ passes (x /ℚ r) most
over_shape x r most above =
    ap₂ nat_lt (turned most x.den r.num) (once (x.num * r.den))
    ∙ above_over (x.num * r.den) (x.den * r.num) most 1 (mul-pos x.positive above) (omega arith)
    ∙ ap (λ y. passes y most) (quotient_is x r)
  where
    turned : (m d n : ℕ) → m * d * n ≡ m * (d * n)
    turned m d n = omega arith

    once : (n : ℕ) → n ≡ n * 1
    once n = omega arith

-- r * v / (r + v) by the parts of r and v
one_claim : (r v : Fraction) → 0 < r.num
    → r *ℚ (v /ℚ (r +ℚ v)) ≡ (r.num * v.num) over (r.num * v.den + v.num * r.den)
one_claim r v above =
    let own : 0 < r.den = r.positive in
    let other : 0 < v.den = v.positive in
    let sum : ℕ = r.num * v.den + v.num * r.den in
    let some : 0 < sum = omega (arith, mul-pos above other) in
    let quotient : v /ℚ (r +ℚ v) ≡ (v.num * (r.den * v.den)) over (v.den * sum) =
    ap₂ (λ x y. x /ℚ y) (sym (over_self v)) (sym (sum_is r v))
    ∙ over_div v.num v.den sum (r.den * v.den) other (mul-pos own other) some in
    ap₂ (λ x y. x *ℚ y) (sym (over_self r)) quotient
    ∙ over_mul r.num r.den (v.num * (r.den * v.den)) (v.den * sum) own (mul-pos other some)
    ∙ over_same _ _ _ _ (mul-pos own (mul-pos other some)) some (cut r.num r.den v.num v.den sum)
  where
    cut : (a b m d s : ℕ) → a * (m * (b * d)) * s ≡ a * m * (b * (d * s))
    cut a b m d s = omega arith

pub one_rare : (r v : Fraction) → 0 < r.num
    → (nat_lt r.num r.den && nat_lt (r.num * v.num * 16) (r.num * v.den + v.num * r.den)) ≡ is_one_rare r v
one_rare r v above =
    let some : 0 < r.num * v.den + v.num * r.den = omega (arith, mul-pos above v.positive) in
    ap₂ (λ a b. a && b)
    (ap₂ nat_lt (once r.num) (before r.den) ∙ above_over 1 1 r.num r.den (omega arith) r.positive
    ∙ ap (is_above (whole 1)) (over_self r))
    (ap (nat_lt (r.num * v.num * 16)) (before (r.num * v.den + v.num * r.den))
    ∙ above_over 1 16 (r.num * v.num) (r.num * v.den + v.num * r.den) (omega arith) some
    ∙ ap (is_above (1 over rarest_claims)) (sym (one_claim r v above)))
  where
    once : (n : ℕ) → n ≡ n * 1
    once n = omega arith

    before : (n : ℕ) → n ≡ 1 * n
    before n = omega arith

-- ---- held and admitted numbers

pub admitted_is : (x : Fraction) → is_admitted x ≡ true → HasPartsOf48Bits x
admitted_is x h =
    let parts = and_parts (nat_lt x.num admitted_bound) (nat_lt x.den admitted_bound) h in
    record { num = ltb-true x.num admitted_bound parts.0; den = ltb-true x.den admitted_bound parts.1 }

pub held_is : (x : Fraction) → is_held x ≡ true → FitsFrac x
held_is x h =
    let parts = and_parts (nat_lt x.num frac_bound) (nat_lt x.den frac_bound) h in
    record { num = ltb-true x.num frac_bound parts.0; den = ltb-true x.den frac_bound parts.1 }

pub is_held_since : (x : Fraction) → FitsFrac x → is_held x ≡ true
is_held_since x h = go x.num x.den h.num h.den
  where
    go : (n d : ℕ) → n < frac_bound → d < frac_bound → (nat_lt n frac_bound && nat_lt d frac_bound) ≡ true
    go n d a b = grind arith

pub is_admitted_since : (x : Fraction) → HasPartsOf48Bits x → is_admitted x ≡ true
is_admitted_since x h = go x.num x.den h.num h.den
  where
    go : (n d : ℕ) → n < admitted_bound → d < admitted_bound
        → (nat_lt n admitted_bound && nat_lt d admitted_bound) ≡ true
    go n d a b = grind arith

pub admitted_some : (x y : Fraction) → Some y ≡ admitted true x → (y ≡ x) × HasPartsOf48Bits y
admitted_some x y e = told (is_admitted x) refl e
  where
    told : (b : Bool) → is_admitted x ≡ b → Some y ≡ (if b then Some x else None) → (y ≡ x) × HasPartsOf48Bits y
    told true small e = let same : y ≡ x = cc in (same, subst HasPartsOf48Bits (sym same) (admitted_is x small))
    told false small e = absurd cc

pub admitted_there : (x : Fraction) → IfSome (admitted true x) HasPartsOf48Bits
admitted_there x = told (is_admitted x) refl
  where
    told : (b : Bool) → is_admitted x ≡ b → IfSome (if b then Some x else None) HasPartsOf48Bits
    told true small = admitted_is x small
    told false small = tt

pub admitted_none : (x : Fraction) → None ≡ admitted true x → is_admitted x ≡ false
admitted_none x e = told (is_admitted x) e
  where
    told : (b : Bool) → None ≡ (if b then Some x else None) → b ≡ false
    told true e = absurd cc
    told false e = refl

-- a result that is refused is not held
pub held_told : {E : Type 0} (r : Result Fraction E) (x : Fraction) → Gives r x → is_err r ≡ not (is_held x)
held_told (Ok y) x given = sym (ap not (is_held_since x given.1))
held_told (Err e) x far = sym (ap not (refused x.num x.den far))
  where
    refused : (n d : ℕ) → (frac_bound ≤ n) ⊎ (frac_bound ≤ d) → (nat_lt n frac_bound && nat_lt d frac_bound) ≡ false
    refused n d (inl h) = grind arith
    refused n d (inr h) = grind arith

-- ---- whole shapes

module _ (r : Fraction) (split : is_whole r ≡ true) where
  one_part : r.den ≡ 1
  one_part = eqb-true r.den 1 split

  few_parts : passes r most_shape ≡ false → r.num ≤ most_shape
  few_parts few = omega (
    arith,
    ltb-false (most_shape * r.den) r.num (passes_is most_shape r ∙ few),
    ap (λ d. most_shape * d) one_part,
  )

  small_whole : passes r most_shape ≡ false → HasPartsOf48Bits r
  small_whole few = record { num = omega (arith, few_parts few); den = omega (arith, one_part) }

  -- one of more than 48 bits passes 10,000
  pub large_whole : is_admitted r ≡ false → true ≡ passes r most_shape
  large_whole coarse = told (passes r most_shape) refl
    where
      told : (b : Bool) → passes r most_shape ≡ b → true ≡ b
      told true e = refl
      told false e = absurd (cc (is_admitted_since r (small_whole e), coarse))

  held_whole : passes r most_shape ≡ false → 0 < r.num → (x : Fraction) → HasPartsOf48Bits x → FitsFrac (x /ℚ r)
  held_whole few above x small =
      let num : ((x.num * r.den) over (x.den * r.num)).num ≤ x.num * 1 =
      subst (λ d. ((x.num * r.den) over (x.den * r.num)).num ≤ x.num * d) one_part
      (num_of_over-le (x.num * r.den) (x.den * r.num) (mul-pos x.positive above)) in
      let den : ((x.num * r.den) over (x.den * r.num)).den ≤ x.den * r.num =
      den_of_over-le (x.num * r.den) (x.den * r.num) (mul-pos x.positive above) in
      subst FitsFrac (quotient_is x r) (record {
        num = omega (arith, num, small.num);
        den = omega (arith, den, mul-le-mul_left x.den (few_parts few), small.den);
      })

-- ---- what the rules leave of a shape

module _ (w : Bool) (r : Fraction) where
  -- a number that is there is held over it
  held_there : (o : Option Fraction) (x : Fraction) → o ≡ Some x → HasPartsOf48Bits x → 0 < r.num
      → (w && not (is_whole r)) ≡ false → (not w && is_coarse_over r o) ≡ false → passes r most_shape ≡ false
      → FitsFrac (x /ℚ r)
  held_there = by_rules w
    where
      by_rules : (w : Bool) (o : Option Fraction) (x : Fraction) → o ≡ Some x → HasPartsOf48Bits x → 0 < r.num
          → (w && not (is_whole r)) ≡ false → (not w && is_coarse_over r o) ≡ false → passes r most_shape ≡ false
          → FitsFrac (x /ℚ r)
      by_rules true o x is small above whole fine few = held_whole r (not-false _ whole) few above x small
      by_rules false o x is small above whole fine few =
          held_is (x /ℚ r) (not-false _ (subst (λ p. is_coarse_over r p ≡ false) is fine))

  whole_where : (w && not (is_whole r)) ≡ false → (not w && not (is_admitted r)) ≡ false → is_admitted r ≡ false
      → is_whole r ≡ true
  whole_where = by_rules w
    where
      by_rules : (w : Bool) → (w && not (is_whole r)) ≡ false → (not w && not (is_admitted r)) ≡ false
          → is_admitted r ≡ false → is_whole r ≡ true
      by_rules true whole fine coarse = not-false _ whole
      by_rules false whole fine coarse = absurd (cc (not-false _ fine, coarse))

-- the tests of a shape that need not be whole, one by one
fine_tests : (w a b c : Bool) → (not w && (a || b || c)) ≡ false
    → ((not w && a) ≡ false) × ((not w && b) ≡ false) × ((not w && c) ≡ false)
fine_tests true a b c e = (refl, refl, refl)
fine_tests false a b c e =
    let parts = or_parts (a || b) c e in
    let first = or_parts a b parts.0 in
    (first.0, first.1, parts.1)

module _ (bounds : Bounds) (c : Fraction) (n above : Option Fraction) (kept : has_no_shape bounds c ≡ false)
    (fine : (not bounds.whole_shapes && shape_too_fine (shape_of c) n above) ≡ false) where
  abbrev r : Fraction
  r = shape_of c

  parts : (is_zero c ≡ false) × ((bounds.whole_shapes && not (is_whole r)) ≡ false)
  parts = or_parts (is_zero c) _ kept

  tests : ((not bounds.whole_shapes && not (is_admitted r)) ≡ false)
      × ((not bounds.whole_shapes && is_coarse_over r n) ≡ false)
      × ((not bounds.whole_shapes && is_coarse_over r above) ≡ false)
  tests = fine_tests bounds.whole_shapes (not (is_admitted r)) (is_coarse_over r n) (is_coarse_over r above) fine

  pub shaped : IsShaped c
  shaped = record { above = parts.0; whole = whole_where bounds.whole_shapes r parts.1 tests.0 }

  pub shape_positive : 0 < r.num
  shape_positive = num_pos r (shape_above c parts.0)

  module _ (few : passes r most_shape ≡ false) where
    pub shape_valid : IsShape r
    shape_valid = record {
      above = shape_above c parts.0;
      few = not_above r (whole most_shape) few;
      admitted = small_shape (is_admitted r) refl;
    }
      where
        small_shape : (b : Bool) → is_admitted r ≡ b → HasPartsOf48Bits r
        small_shape true small = admitted_is r small
        small_shape false coarse = small_whole r (shaped.whole coarse) few

    pub gamma_count : (x : Fraction) → n ≡ Some x → HasPartsOf48Bits x → IsGammaCount r x
    gamma_count x is small = record {
      shape = shape_valid;
      beta = held_there bounds.whole_shapes r n x is small shape_positive parts.1 tests.1 few;
    }

  pub thinned_gamma : is_shape_large r above ≡ false → (x : Fraction) → above ≡ Some x → HasPartsOf48Bits x
      → IsThinnedGamma r x
  thinned_gamma few x is small =
      let large = or_parts (passes r most_shape) _ few in
      record {
        beta = held_there bounds.whole_shapes r above x is small shape_positive parts.1 tests.2 large.0;
        few = not_above (x /ℚ r) (whole most_beta)
            (subst (λ o. is_there_and (λ y. passes (y /ℚ r) most_beta) o ≡ false) is large.1);
      }

-- and back: a shape over which its numbers are held is not too fine
not_coarse : (r : Fraction) (o : Option Fraction) → IfSome o (λ x. FitsFrac (x /ℚ r)) → is_coarse_over r o ≡ false
not_coarse r None held = refl
not_coarse r (Some x) held = ap not (is_held_since (x /ℚ r) held)

pub not_too_fine : (r : Fraction) (n above : Option Fraction) → HasPartsOf48Bits r
    → IfSome n (λ x. FitsFrac (x /ℚ r)) → IfSome above (λ x. FitsFrac (x /ℚ r)) → shape_too_fine r n above ≡ false
not_too_fine r n above small held more =
    rw (is_admitted_since r small, not_coarse r n held, not_coarse r above more) refl
