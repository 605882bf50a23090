-- The lesser of two fractions is one of them.
use Rattle.dl_exact.proofs.Common.{◌≡◌, ℕ, ◌*◌, ◌<◌, arith, inl, inr, sym, ap, ap₂, subst, ◌∙◌, mul-pos, cases_lt, Fraction, ◌over◌, ◌≤ℚ◌, min, lesser}
use Rattle.dl_exact.proofs.Over.{over_same, over_self}
use Rattle.dl_exact.proofs.Laws.{le_refl, le_trans, le_of_lt, lt_or_le}
use Rattle.dl_exact.proofs.Denominators.{over_le_over}

pub lesser_left : (x y : Fraction) → x ≤ℚ y → lesser x y ≡ x
unfolding lesser ◌≤ℚ◌
lesser_left x y p =
    let e : min (x.num * y.den) (y.num * x.den) ≡ x.num * y.den = omega (arith, p) in
    ap (λ t. t over (x.den * y.den)) e
    ∙ over_same _ _ _ _ (mul-pos x.positive y.positive) x.positive (omega arith)
    ∙ over_self x

lesser_turned : (x y : Fraction) → lesser x y ≡ lesser y x
unfolding lesser
lesser_turned x y = ap₂ (λ s t. s over t) (omega arith) (omega arith)

pub lesser_right : (x y : Fraction) → y ≤ℚ x → lesser x y ≡ y
lesser_right x y p = lesser_turned x y ∙ lesser_left y x p

-- what holds of each of the two where it is the lesser holds of the lesser
by_lesser : (P : Fraction → Type 0) (x y : Fraction) → (x ≤ℚ y → P x) → (y ≤ℚ x → P y) → P (lesser x y)
by_lesser P x y h k = elim (lt_or_le x y) [
  | inl less ↦ let p : x ≤ℚ y = le_of_lt x y less in subst P (sym (lesser_left x y p)) (h p)
  | inr p ↦ subst P (sym (lesser_right x y p)) (k p)
]

pub lesser_first : (x y : Fraction) → lesser x y ≤ℚ x
lesser_first x y = by_lesser (λ t. t ≤ℚ x) x y (λ _. le_refl x) (λ p. p)

pub lesser_second : (x y : Fraction) → lesser x y ≤ℚ y
lesser_second x y = by_lesser (λ t. t ≤ℚ y) x y (λ p. p) (λ _. le_refl y)

pub le_lesser : (x y z : Fraction) → z ≤ℚ x → z ≤ℚ y → z ≤ℚ lesser x y
le_lesser x y z p q = by_lesser (λ t. z ≤ℚ t) x y (λ _. p) (λ _. q)

-- ends lowered to the number t of units, of which d make 1
pub clamp_low : (d a t : ℕ) (x : Fraction) → 0 < d → a over d ≤ℚ x → min a t over d ≤ℚ lesser x (t over d)
clamp_low d a t x pos p =
    le_lesser x (t over d) _ (le_trans _ _ _ (over_le_over _ a d pos (omega arith)) p)
    (over_le_over _ t d pos (omega arith))

pub clamp_high : (d a t : ℕ) (x : Fraction) → 0 < d → x ≤ℚ a over d → lesser x (t over d) ≤ℚ min a t over d
clamp_high d a t x pos p = elim (cases_lt a t) [
  | inl less ↦
      let e : min a t ≡ a = omega arith in
      subst (λ n. lesser x (t over d) ≤ℚ n over d) (sym e) (le_trans _ _ _ (lesser_first x (t over d)) p)
  | inr more ↦
      let e : min a t ≡ t = omega arith in
      subst (λ n. lesser x (t over d) ≤ℚ n over d) (sym e) (lesser_second x (t over d))
]
