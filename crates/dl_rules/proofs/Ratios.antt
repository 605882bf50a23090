-- Quotients and products of fractions, cut across.
use Rattle.dl_rules.proofs.Common.{◌≡◌, ◌∙◌, ℕ, ◌*◌, ◌<◌, ◌≤◌, nat_lt, ◌&&◌, if◌then◌else◌, true, false, Some, None, refl, sym, ap, ap₂, subst, arith, inl, inr, mul-pos, ◌∣◌, gcd, Fraction, whole, ◌over◌, ◌*ℚ◌, ◌/ℚ◌, gcd_is, IsTooFine, lowest_swap, lowest_times, lowest_product, lowest_num, lowest_den, product_is, quotient_is, whole_num, whole_den, admitted_bound, is_admitted, admitted, mul_comm, mul-le-mul, pos_of_dvd_of_pos, over_zero, over_self, over_mul, num_of_over, den_of_over, zero_times, times_comm, lowest_parts, part_divides, frac_bound, ◌⊎◌}

num_divides : (n d : ℕ) → 0 < d → (n over d).num ∣ n
num_divides n d h = subst (λ k. k ∣ n) (sym (num_of_over n d h)) (part_divides n (gcd n d) (gcd_is n d).0)

den_divides : (n d : ℕ) → 0 < d → (n over d).den ∣ d
den_divides n d h = subst (λ k. k ∣ d) (sym (den_of_over n d h)) (part_divides d (gcd n d) (gcd_is n d).1)

-- a over b times c over d
module _ (a b c d : ℕ) (hb : 0 < b) (hd : 0 < d) where
  abbrev up : Fraction
  up = a over d

  abbrev down : Fraction
  down = c over b

  pub crossed_pos : 0 < up.den * down.den
  crossed_pos = mul-pos up.positive down.positive

  pub crossed_lowest : gcd a b ≡ 1 → gcd c d ≡ 1 → gcd (up.num * down.num) (up.den * down.den) ≡ 1
  crossed_lowest e f =
      let left : gcd up.num (up.den * down.den) ≡ 1 =
      lowest_times up.num up.den down.den down.positive up.lowest
      (lowest_parts a b _ _ e (num_divides a d hd) (den_divides c b hb)) in
      let right : gcd down.num (up.den * down.den) ≡ 1 =
      lowest_times down.num up.den down.den down.positive
      (lowest_parts c d _ _ f (num_divides c b hb) (den_divides a d hd)) down.lowest in
      lowest_product up.num down.num (up.den * down.den) crossed_pos left right

  pub crossed_value : (up.num * down.num) over (up.den * down.den) ≡ (a * c) over (b * d)
  crossed_value = product_is up down ∙ over_mul a d c b hd hb ∙ ap (λ k. (a * c) over k) (mul_comm d b)

-- ---- quotients

module _ (x y u v : Fraction) (n m d e : ℕ) (above : 0 < y.num) (tops : u ≡ x.num over y.num)
    (bottoms : v ≡ y.den over x.den) (hn : n ≡ u.num) (hm : m ≡ v.num) (hd : d ≡ u.den) (he : e ≡ v.den) where
  num_is : n * m ≡ (x.num over y.num).num * (y.den over x.den).num
  num_is = ap₂ (λ a b. a * b) (hn ∙ ap (λ (z : Fraction). z.num) tops) (hm ∙ ap (λ (z : Fraction). z.num) bottoms)

  den_is : d * e ≡ (x.num over y.num).den * (y.den over x.den).den
  den_is = ap₂ (λ a b. a * b) (hd ∙ ap (λ (z : Fraction). z.den) tops) (he ∙ ap (λ (z : Fraction). z.den) bottoms)

  pub quotient_lowest : gcd (n * m) (d * e) ≡ 1
  quotient_lowest =
      ap₂ gcd num_is den_is ∙ crossed_lowest x.num x.den y.den y.num x.positive above x.lowest
      (lowest_swap y.num y.den y.lowest)

  pub quotient_value : (n * m) over (d * e) ≡ x /ℚ y
  quotient_value =
      ap₂ (λ a b. a over b) num_is den_is ∙ crossed_value x.num x.den y.den y.num x.positive above ∙ quotient_is x y

-- ---- products that may be too fine

not_admitted : (n d : ℕ) → (frac_bound ≤ n) ⊎ (frac_bound ≤ d) → (nat_lt n admitted_bound && nat_lt d admitted_bound) ≡ false
not_admitted n d (inl h) = grind arith
not_admitted n d (inr h) = grind arith

pub too_fine_refused : (x : Fraction) → IsTooFine x → None ≡ admitted true x
too_fine_refused x far = ap (λ b. if b then Some x else None) (sym (not_admitted x.num x.den far))

at_least : (k m n : ℕ) → 0 < n → k ≤ m → k ≤ m * n
at_least k m n h le =
    let more : m * 1 ≤ m * n = mul-le-mul {n₁ = m} {m₁ = 1} {n₂ = m} {m₂ = n} (omega arith) h in
    omega (arith, le, more)

num_above_zero : (n d : ℕ) → 0 < d → 0 < n → 0 < (n over d).num
num_above_zero n d hd hn = pos_of_dvd_of_pos (num_divides n d hd) hn

module _ (x y : Fraction) where
  abbrev first : Fraction
  first = x.num over y.den

  abbrev second : Fraction
  second = y.num over x.den

  pub product_value : first *ℚ second ≡ x *ℚ y
  product_value =
      over_mul x.num y.den y.num x.den y.positive x.positive
      ∙ ap (λ k. (x.num * y.num) over k) (mul_comm y.den x.den) ∙ product_is x y

  lowest_here : gcd (first.num * second.num) (first.den * second.den) ≡ 1
  lowest_here = crossed_lowest x.num x.den y.num y.den x.positive y.positive x.lowest y.lowest

  parts_num : (x *ℚ y).num ≡ first.num * second.num
  parts_num =
      ap (λ (z : Fraction). z.num) (sym (product_value) ∙ sym (product_is first second))
      ∙ lowest_num _ _ (mul-pos first.positive second.positive) lowest_here

  parts_den : (x *ℚ y).den ≡ first.den * second.den
  parts_den =
      ap (λ (z : Fraction). z.den) (sym (product_value) ∙ sym (product_is first second))
      ∙ lowest_den _ _ (mul-pos first.positive second.positive) lowest_here

  pub first_too_fine : 0 < y.num → IsTooFine first → None ≡ admitted true (x *ℚ y)
  first_too_fine h (inl far) =
      too_fine_refused (x *ℚ y) (inl (subst (λ k. frac_bound ≤ k) (sym parts_num)
      (at_least _ first.num second.num (num_above_zero y.num x.den x.positive h) far)))
  first_too_fine h (inr far) =
      too_fine_refused (x *ℚ y)
      (inr (subst (λ k. frac_bound ≤ k) (sym parts_den) (at_least _ first.den second.den second.positive far)))

pub second_too_fine : (x y : Fraction) → 0 < x.num → IsTooFine (y.num over x.den) → None ≡ admitted true (x *ℚ y)
second_too_fine x y h far = first_too_fine y x h far ∙ ap (admitted true) (times_comm y x)

pub nothing_left : (x y : Fraction) → x.num ≡ 0 → x *ℚ y ≡ whole 0
nothing_left x y e = ap (λ z. z *ℚ y) (sym (over_self x) ∙ ap (λ n. n over x.den) e ∙ over_zero x.den x.positive)
    ∙ zero_times y

pub nothing_right : (x y : Fraction) → y.num ≡ 0 → x *ℚ y ≡ whole 0
nothing_right x y e = times_comm x y ∙ nothing_left y x e

pub zero_admitted : Some (whole 0) ≡ admitted true (whole 0)
zero_admitted = ap (λ b. if b then Some (whole 0) else None) (sym passes)
  where
    passes : is_admitted (whole 0) ≡ true
    passes = rw (whole_num 0, whole_den 0) refl

-- a number that is a number other than 0
pub above_zero : (n m : ℕ) → (n ≡ 0 → ⊥) → n ≡ m → 0 < m
above_zero n m h e = omega (arith, h, e)
