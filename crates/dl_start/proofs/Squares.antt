-- Square roots of whole numbers, and of the probability of no claim.
use Rattle.dl_start.proofs.Common.{◌≡◌, ℕ, zero, suc, ◌+◌, ◌*◌, ◌^◌, ◌<◌, ◌≤◌, inl, inr, cases_lt, arith, sym, ap, subst, ◌∙◌, mul-pos, mul-le-mul, mul-le-mul_right, pow-add, pow-suc, Fraction, ◌over◌, ◌+ℚ◌, ◌*ℚ◌, ◌≤ℚ◌, whole, sum_to, over_le, over_mul, gamma, AtLeast, AtMost, Holds, none_least, none_most, root_least, root_most}

-- a number whose square is below that of another is below it
pub le_of_squares : (a b l h : ℕ) → a * a ≤ l → l ≤ h → h ≤ b * b → a ≤ b
le_of_squares a b l h p q r = elim (cases_lt b a) [
  | inl above ↦ absurd (omega (arith, p, q, r, mul-le-mul {n₁ = suc b} {m₁ = suc b} {n₂ = a} {m₂ = a} above above))
  | inr near ↦ near
]

-- the squares of ends in units of 1 / Q, against the product of ends in units of 1 / P and 1 / R
module _ (P R Q s : ℕ) (Pp : 0 < P) (Rp : 0 < R) (Qp : 0 < Q) (scales : Q * Q * s ≡ P * R) where
  square_low : (a k l m : ℕ) → a * a ≤ k → k * s ≤ l * m → a over Q *ℚ a over Q ≤ℚ l over P *ℚ m over R
  square_low a k l m h p = rw (over_mul a Q a Q Qp Qp, over_mul l P m R Pp Rp)
      (over_le _ _ _ _ (mul-pos Qp Qp) (mul-pos Pp Rp) (omega (
        arith,
        mul-le-mul_right (Q * Q) p,
        mul-le-mul_right (Q * Q * s) h,
        ap (λ t. a * a * t) scales,
      )))

  square_high : (b k l m : ℕ) → k ≤ b * b → l * m ≤ k * s → l over P *ℚ m over R ≤ℚ b over Q *ℚ b over Q
  square_high b k l m h p = rw (over_mul b Q b Q Qp Qp, over_mul l P m R Pp Rp)
      (over_le _ _ _ _ (mul-pos Pp Rp) (mul-pos Qp Qp) (omega (
        arith,
        mul-le-mul_right (Q * Q) p,
        mul-le-mul_right (Q * Q * s) h,
        ap (λ t. b * b * t) scales,
      )))

  -- the root of the product of the probabilities of no claim of two shapes
  pub root_holds : (r t u c : Fraction) (l h l' h' j k a b : ℕ) → r +ℚ r ≡ t +ℚ u
      → Holds (λ N. whole 1) (λ N. sum_to N (gamma t c)) (l over P) (h over P)
      → Holds (λ N. whole 1) (λ N. sum_to N (gamma u c)) (l' over R) (h' over R)
      → a * a ≤ j → j * s ≤ l * l' → k ≤ b * b → h * h' ≤ k * s
      → Holds (λ N. whole 1) (λ N. sum_to N (gamma r c)) (a over Q) (b over Q)
  root_holds r t u c l h l' h' j k a b e H K p p' q q' = (
    root_least r c (l over P *ℚ l' over R) (a over Q)
        (subst (λ z. AtLeast (λ N. whole 1) (λ N. sum_to N (gamma z c)) (l over P *ℚ l' over R)) (sym e)
        (none_least t u c (l over P) (l' over R) H.0 K.0)) (square_low a j l l' p p'),
    root_most r c (h over P *ℚ h' over R) (b over Q)
        (subst (λ z. AtMost (λ N. whole 1) (λ N. sum_to N (gamma z c)) (h over P *ℚ h' over R)) (sym e)
        (none_most t u c (h over P) (h' over R) H.1 K.1)) (square_high b k h h' q q'),
  )

pub root_scales : (e g f o : ℕ) → o ≤ 1 → f + f + o ≡ e + g → 2 ^ f * 2 ^ f * (o + 1) ≡ 2 ^ e * 2 ^ g
root_scales e g f zero few h =
    let same : f + f ≡ e + g = omega (arith, h) in
    omega (arith, sym (pow-add 2 f f) ∙ ap (λ t. 2 ^ t) same ∙ pow-add 2 e g)
root_scales e g f (suc zero) few h =
    let same : suc (f + f) ≡ e + g = omega (arith, h) in
    omega (arith, pow-suc 2 (f + f), pow-add 2 f f, ap (λ t. 2 ^ t) same ∙ pow-add 2 e g)
root_scales e g f (suc (suc o)) few h = absurd (omega (arith, few))
