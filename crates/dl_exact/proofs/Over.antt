-- How `over` goes with equality, sums, products and order. The other laws of fractions follow from these by `omega`.
use Rattle.dl_exact.proofs.Common.{inl, inr, refl, ◌≡◌, ℕ, suc, zero, ◌+◌, ◌*◌, ◌-◌, ◌/◌, ◌<◌, ◌≤◌, arith, sym, ap, ap₂, ◌∙◌, mul-pos, mul_comm, le_of_mul-le-mul_right, mul-le-mul_right, mul-lt-mul_of_pos_right, subst, mul-sub, gcd, Fraction, ◌over◌, ◌+ℚ◌, ◌-ℚ◌, ◌*ℚ◌, ◌/ℚ◌, ◌≤ℚ◌, ◌<ℚ◌, div-one, lt_of_mul-lt-mul_right, ℕ_set, le_prop, read_as}
use Rattle.std.specs.Prelude.{◌≢◌, ◌⊎◌, ◌==◌, true, false}
use mathlib.Core.HLevel.{is_prop→PathP}
use Rattle.dl_exact.proofs.GcdLaws.{cut_pos, cut_lowest, cut_left, cut_right, cut_scale_left, cut_scale_right}

-- a fraction is told by its two parts
pub same : (x y : Fraction) → x.num ≡ y.num → x.den ≡ y.den → x ≡ y
same x y p q = λ i. record {
  num = p i;
  den = q i;
  positive = is_prop→PathP (λ j. 0 < q j) (λ j. le_prop) x.positive y.positive i;
  lowest = is_prop→PathP (λ j. gcd (p j) (q j) ≡ 1) (λ j. ℕ_set _ _) x.lowest y.lowest i;
}

-- what is left of two numbers after the common divisor is taken out is in lowest terms
over_read : (n d : ℕ) (p : (d ≡ 0) ⊎ (0 < d))
    (q : (((gcd n d == 1) ≡ true) × (gcd n d ≡ 1)) ⊎ (((gcd n d == 1) ≡ false) × (gcd n d ≢ 1)))
    → 0 < d → gcd n d ≡ 1 → ((read_as n d p q).num ≡ n) × ((read_as n d p q).den ≡ d)
unfolding read_as
over_read n d (inl none) q h e = absurd (omega arith)
over_read n d (inr positive) (inl lowest) h e = (refl, refl)
over_read n d (inr positive) (inr common) h e = absurd (common.1 e)

over_parts : (n d : ℕ) → 0 < d → ((n over d).num ≡ n / gcd n d) × ((n over d).den ≡ d / gcd n d)
unfolding ◌over◌
over_parts n d h = over_read _ _ _ _ (cut_pos n d h) (cut_lowest n d h)

pub over_num : (n d : ℕ) → 0 < d → (n over d).num ≡ n / gcd n d
over_num n d h = (over_parts n d h).0

pub over_den : (n d : ℕ) → 0 < d → (n over d).den ≡ d / gcd n d
over_den n d h = (over_parts n d h).1

pub over_self : (x : Fraction) → x.num over x.den ≡ x
over_self x = same _ _
    (over_num _ _ x.positive ∙ ap (λ g. x.num / g) x.lowest ∙ div-one _)
    (over_den _ _ x.positive ∙ ap (λ g. x.den / g) x.lowest ∙ div-one _)

over_scale : (n d c : ℕ) → 0 < d → 0 < c → (n * c) over (d * c) ≡ n over d
over_scale n d c hd hc = same _ _
    (over_num _ _ (mul-pos hd hc) ∙ cut_scale_left n d c hd hc ∙ sym (over_num n d hd))
    (over_den _ _ (mul-pos hd hc) ∙ cut_scale_right n d c hd hc ∙ sym (over_den n d hd))

-- equal by cross multiplication: one
pub over_same : (n d m e : ℕ) → 0 < d → 0 < e → n * e ≡ m * d → n over d ≡ m over e
over_same n d m e hd he p =
    sym (over_scale n d e hd he) ∙ ap₂ (λ x y. x over y) p (mul_comm d e) ∙ over_scale m e d he hd

-- the parts stand to each other as the numbers do
pub over_cross : (n d : ℕ) → 0 < d → (n over d).num * d ≡ n * (n over d).den
over_cross n d h =
    let g = gcd n d in
    let a : (n over d).num * g ≡ n = ap (λ x. x * g) (over_num n d h) ∙ cut_left n d in
    let b : (n over d).den * g ≡ d = ap (λ x. x * g) (over_den n d h) ∙ cut_right n d in
    let c : (n over d).num * ((n over d).den * g) ≡ (n over d).num * d = ap (λ x. (n over d).num * x) b in
    let e : (n over d).num * g * (n over d).den ≡ n * (n over d).den = ap (λ x. x * (n over d).den) a in
    omega (arith, c, e)

sub-mul : (a b c : ℕ) → (a - b) * c ≡ a * c - b * c
sub-mul a b c = mul_comm (a - b) c ∙ mul-sub c a b ∙ ap₂ (λ s t. s - t) (mul_comm c a) (mul_comm c b)

pub pos_of_mul : (a b : ℕ) → 0 < a * b → 0 < a
pos_of_mul zero b h = absurd (omega (arith, h))
pos_of_mul (suc a) b h = omega arith

module _ (n d m e : ℕ) (hd : 0 < d) (he : 0 < e) where
  pub over_add : n over d +ℚ m over e ≡ (n * e + m * d) over (d * e)
  unfolding ◌+ℚ◌
  over_add =
      let x = n over d in
      let y = m over e in
      over_same _ _ _ _ (mul-pos x.positive y.positive) (mul-pos hd he)
      (omega (arith, ap (λ t. t * (y.den * e)) (over_cross n d hd), ap (λ t. t * (x.den * d)) (over_cross m e he)))

  pub over_mul : n over d *ℚ m over e ≡ (n * m) over (d * e)
  unfolding ◌*ℚ◌
  over_mul =
      let x = n over d in
      let y = m over e in
      over_same _ _ _ _ (mul-pos x.positive y.positive) (mul-pos hd he)
      (omega (arith, ap₂ (λ s t. s * t) (over_cross n d hd) (over_cross m e he)))

  pub over_le : n * e ≤ m * d → n over d ≤ℚ m over e
  unfolding ◌≤ℚ◌
  over_le h =
      let x = n over d in
      let y = m over e in
      le_of_mul-le-mul_right {k = d * e}
      (omega (
        arith,
        mul-le-mul_right (x.den * y.den) h,
        ap (λ t. t * (y.den * e)) (over_cross n d hd),
        ap (λ t. t * (x.den * d)) (over_cross m e he),
      ))
      (mul-pos hd he)

  pub le_over : n over d ≤ℚ m over e → n * e ≤ m * d
  unfolding ◌≤ℚ◌
  le_over h =
      let x = n over d in
      let y = m over e in
      le_of_mul-le-mul_right {k = x.den * y.den}
      (omega (
        arith,
        mul-le-mul_right (d * e) h,
        ap (λ t. t * (y.den * e)) (over_cross n d hd),
        ap (λ t. t * (x.den * d)) (over_cross m e he),
      ))
      (mul-pos x.positive y.positive)

  pub over_lt : n * e < m * d → n over d <ℚ m over e
  unfolding ◌<ℚ◌
  over_lt h =
      let x = n over d in
      let y = m over e in
      lt_of_mul-lt-mul_right (d * e)
      (omega (
        arith,
        mul-lt-mul_of_pos_right h (mul-pos x.positive y.positive),
        ap (λ t. t * (y.den * e)) (over_cross n d hd),
        ap (λ t. t * (x.den * d)) (over_cross m e he),
      ))

  pub lt_over : n over d <ℚ m over e → n * e < m * d
  unfolding ◌<ℚ◌
  lt_over h =
      let x = n over d in
      let y = m over e in
      lt_of_mul-lt-mul_right (x.den * y.den)
      (omega (
        arith,
        mul-lt-mul_of_pos_right h (mul-pos hd he),
        ap (λ t. t * (y.den * e)) (over_cross n d hd),
        ap (λ t. t * (x.den * d)) (over_cross m e he),
      ))

  pub over_sub : n over d -ℚ m over e ≡ (n * e - m * d) over (d * e)
  unfolding ◌-ℚ◌
  over_sub =
      let x = n over d in
      let y = m over e in
      let k = x.den * y.den in
      let l = d * e in
      let a : x.num * y.den * l ≡ n * e * k = omega (arith, ap (λ t. t * (y.den * e)) (over_cross n d hd)) in
      let b : y.num * x.den * l ≡ m * d * k = omega (arith, ap (λ t. t * (x.den * d)) (over_cross m e he)) in
      over_same _ _ _ _ (mul-pos x.positive y.positive) (mul-pos hd he)
      (sub-mul (x.num * y.den) (y.num * x.den) l ∙ ap₂ (λ s t. s - t) a b ∙ sym (sub-mul (n * e) (m * d) k))

  pub over_div : 0 < m → n over d /ℚ m over e ≡ (n * e) over (d * m)
  unfolding ◌/ℚ◌
  over_div hm =
      let x = n over d in
      let y = m over e in
      let p : 0 < y.num = pos_of_mul y.num e (omega (arith, over_cross m e he, mul-pos hm y.positive)) in
      over_same _ _ _ _ (mul-pos x.positive p) (mul-pos hd hm)
      (omega (arith, ap₂ (λ s t. s * t) (over_cross n d hd) (sym (over_cross m e he))))

-- to prove a law of fractions, prove it of numbers over numbers above 0
pub by_over : (P : Fraction → Type 0) → ((n d : ℕ) → 0 < d → P (n over d)) → (x : Fraction) → P x
by_over P h x = subst P (over_self x) (h x.num x.den x.positive)
