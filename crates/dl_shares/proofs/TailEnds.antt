-- The share of a unit of a plan at a bracket of the quantile: what its ends hold.
use Rattle.dl_shares.proofs.Common.{ℕ, ◌≡◌, inl, inr, ◌+◌, ◌-◌, ◌*◌, ◌/◌, ◌^◌, ◌<◌, ◌≤◌, List, length, Some, arith, refl, sym, ap, subst, subst₂, ◌∙◌, cases_lt, div_ceil, mul-le-mul_right, mul-pos, pow_pos, Fraction, ◌over◌, ◌+ℚ◌, ◌-ℚ◌, ◌*ℚ◌, ◌≤ℚ◌, le_refl, times_le_both, over_le, over_mul, over_pos, over_self, Iv, low_at, high_at, low_cdf, high_cdf, AtMost, AtLeast, Holds, Series, Quantity, One, Point, Cdf, Joint, Plan, declared, IsQuantile, at_least_wider, ceiling_reaches, div-mul-le_self, over_le_over, over_minus, over_plus, over_sub, IsValid, IsBracketed, atom_least, atom_most, atom_whole, cdf_most_one, cdf_points, quantity_rises, AtomLeast, AtomMost, cdf_within, IsBracketIn, low_above, high_above, part_down, part_up}
use Rattle.dl_exact.proofs.Laws.{le_trans}
use Rattle.dl_model.proofs.CommonPlans.{plan_distribution, inside as plan_inside}
use Rattle.dl_shares.proofs.TailParts.{down_most, down_reaches, some_up, whole_up}

-- ---- numbers in the same units

pub over_sum : (m b a S : ℕ) → 0 < S → m over S -ℚ b over S +ℚ a over S ≡ ((m - b) + a) over S
over_sum m b a S s = ap (λ t. t +ℚ a over S) (sym (over_minus m b S s)) ∙ over_plus (m - b) a S s

-- a product of two of them, one of which is replaced
high_product : (j a c l S : ℕ) (x : Fraction) → 0 < S → x ≤ℚ a over S → j * a ≤ c * l
    → j over S *ℚ x ≤ℚ c over S *ℚ l over S
high_product j a c l S x s most le = le_trans _ _ _ (times_le_both _ _ _ _ (le_refl (j over S)) most)
    (subst₂ (λ s t. s ≤ℚ t) (sym (over_mul j S a S s s)) (sym (over_mul c S l S s s))
    (over_le_over (j * a) (c * l) (S * S) (mul-pos s s) le))

low_product : (j a c l S : ℕ) (x : Fraction) → 0 < S → a over S ≤ℚ x → c * l ≤ j * a
    → c over S *ℚ l over S ≤ℚ j over S *ℚ x
low_product j a c l S x s least le = le_trans _ _ _
    (subst₂ (λ s t. s ≤ℚ t) (sym (over_mul c S l S s s)) (sym (over_mul j S a S s s))
    (over_le_over (c * l) (j * a) (S * S) (mul-pos s s) le))
    (times_le_both _ _ _ _ (le_refl (j over S)) least)

-- ---- a number of them less p, rounded both ways

less_p : (S f : ℕ) (p : Fraction) → 0 < S → f over S -ℚ p ≡ (f * p.den - p.num * S) over (S * p.den)
less_p S f p s = ap (λ t. f over S -ℚ t) (sym (over_self p)) ∙ over_sub f S p.num p.den s p.positive

above_most : (S f : ℕ) (p : Fraction) → 0 < S → f over S -ℚ p ≤ℚ (f - S * p.num / p.den) over S
above_most S f p s = subst (λ t. t ≤ℚ (f - S * p.num / p.den) over S) (sym (less_p S f p s))
    (over_le _ _ _ _ (mul-pos s p.positive) s
    (omega (
      arith,
      mul-le-mul_right S (numbers (S * p.num / p.den) (f - S * p.num / p.den) (omega arith)
          (div-mul-le_self (S * p.num) p.den)),
    )))
  where
    numbers : (k r : ℕ) → f ≤ k + r → k * p.den ≤ S * p.num → f * p.den - p.num * S ≤ r * p.den
    numbers k r le part = omega (arith, mul-le-mul_right p.den le)

above_least : (S f : ℕ) (p : Fraction) → 0 < S → (f - div_ceil (S * p.num) p.den) over S ≤ℚ f over S -ℚ p
above_least S f p s = subst (λ t. (f - div_ceil (S * p.num) p.den) over S ≤ℚ t) (sym (less_p S f p s))
    (over_le _ _ _ _ s (mul-pos s p.positive)
    (omega (
      arith,
      mul-le-mul_right S (numbers (div_ceil (S * p.num) p.den)
          (ceiling_reaches (S * p.num) p.den p.positive)),
    )))
  where
    numbers : (k : ℕ) → S * p.num ≤ k * p.den → (f - k) * p.den ≤ f * p.den - p.num * S
    numbers k part = elim (cases_lt k f) [
      | inl less ↦
          let sum : k + (f - k) ≤ f = omega arith in
          omega (arith, part, mul-le-mul_right p.den sum)
      | inr more ↦
          let none : f - k ≡ 0 = omega (arith, more) in
          omega (arith, ap (λ t. t * p.den) none)
    ]

-- ---- of a plan whose total the grid holds

module _ {B : ℕ} (plan : Plan) (valid : IsValid plan) (grid : List (Iv B))
    (points : (x : ℕ) → x < length grid → Holds (declared plan (Point x)) (declared plan One) (low_at grid x over 2 ^ B)
    (high_at grid x over 2 ^ B)) (p : Fraction) where
  abbrev D : Quantity → Series
  D = declared plan

  abbrev s : 0 < 2 ^ B
  s = pow_pos B

  cdf : (x : ℕ) → x < length grid
      → Holds (D (Cdf x)) (D One) (low_cdf (2 ^ B) (low_at grid) x) (high_cdf (2 ^ B) (high_at grid) x)
  cdf = cdf_within D (2 ^ B) (length grid) (low_at grid) (high_at grid) (λ x. quantity_rises plan valid (Point x))
      (cdf_points plan valid) (cdf_most_one plan valid) s points

  -- the quantile lies in its bracket
  pub quantile_between : (lo hi q : ℕ) → IsBracketIn grid p lo (Some hi) → IsQuantile D q p → (lo ≤ q) × (q ≤ hi)
  quantile_between lo hi q bracket is =
      let held : IsBracketed D lo (Some hi) p = record {
        before = λ x e. (
          high_cdf (2 ^ B) (high_at grid) x,
          bracket.first.before x (omega (arith, e)),
          (cdf x (omega (arith, e, bracket.first.within))).1,
        );
        reached = λ x e. subst (λ y. AtLeast (D (Cdf y)) (D One) p) (same x e) (at_least_wider (D (Cdf hi)) (D One) _ p
            (cdf hi bracket.found.0).0 (bracket.found.1.reached bracket.found.0));
      } in
      let around = plan_inside D (plan_distribution plan valid) p q lo (Some hi) is held in
      (around.0, around.1 hi refl)
    where
      same : (x : ℕ) → Some hi ≡ Some x → hi ≡ x
      same x e = cc

  module _ (i x : ℕ) (inside : x < length grid) where
    pub atom_high : (j : ℕ) → AtMost (D (Joint i x)) (D One) (j over 2 ^ B)
        → AtomMost D i p x (part_up j (high_above grid p x) (low_at grid x) over 2 ^ B)
    atom_high j most = elim (cases_lt (high_above grid p x) (low_at grid x)) [
      | inr all ↦ subst (λ n. AtomMost D i p x (n over 2 ^ B)) (sym (whole_up _ _ _ all))
          (atom_whole plan valid i p x (j over 2 ^ B) most)
      | inl some ↦ subst (λ n. AtomMost D i p x (n over 2 ^ B)) (sym (some_up _ _ _ some))
          (atom_most plan valid i p x (j over 2 ^ B) (low_at grid x over 2 ^ B) (high_cdf (2 ^ B) (high_at grid) x) _
          (over_pos (low_at grid x) (2 ^ B) (omega (arith, some)) s) most (points x inside).0 (cdf x inside).1
          (high_product j (high_above grid p x) _ (low_at grid x) (2 ^ B) _ s (above_most (2 ^ B) _ p s)
          (ceiling_reaches (j * high_above grid p x) (low_at grid x) (omega (arith, some)))))
    ]

    pub atom_low : (j : ℕ) → AtLeast (D (Joint i x)) (D One) (j over 2 ^ B)
        → AtomLeast D i p x (part_down j (low_above grid p x) (high_at grid x) over 2 ^ B)
    atom_low j least = atom_least plan valid i p x (j over 2 ^ B) (high_at grid x over 2 ^ B)
        (low_cdf (2 ^ B) (low_at grid) x) _ least (points x inside).1 (cdf x inside).0 (over_le_over _ _ (2 ^ B) s (down_most j _ _))
        (low_product j (low_above grid p x) _ (high_at grid x) (2 ^ B) _ s (above_least (2 ^ B) _ p s)
        (down_reaches j (low_above grid p x) (high_at grid x)))
