-- Reciprocals in whole units, rounded down and up.
use Rattle.dl_panjer.proofs.Common.{◌≡◌, ℕ, ◌+◌, ◌*◌, ◌/◌, ◌^◌, ◌<◌, ◌≤◌, arith, sym, ap, subst, subst₂, ◌∙◌, mul-pos, mul-le-mul_left, mul-le-mul_right, le_of_mul-le-mul_right, lt-div-mul-add, div_ceil_times, div_ceil, Fraction, ◌over◌, ◌*ℚ◌, ◌≤ℚ◌, ◌<ℚ◌, whole, ring, le_refl, le_trans, times_le_cancel, whole_pos, whole_times, over_times_whole, times_le_both, whole_le, part_within, power_le, one_times, times_pos}
use Rattle.std.proofs.Common.{mul-le-mul}

module _ (S T : ℕ) (S_pos : 0 < S) (T_pos : 0 < T) where
  units_pos : whole 0 <ℚ whole S *ℚ whole T
  units_pos = times_pos _ _ (whole_pos S S_pos) (whole_pos T T_pos)

  in_units : (n : ℕ) (x : Fraction) → n over S *ℚ x *ℚ (whole S *ℚ whole T) ≡ whole n *ℚ (whole T *ℚ x)
  in_units n x = turn (n over S) x (whole S) (whole T) ∙ ap (λ t. t *ℚ (whole T *ℚ x)) (over_times_whole n S S_pos)
    where
      turn : (a x s t : Fraction) → a *ℚ x *ℚ (s *ℚ t) ≡ a *ℚ s *ℚ (t *ℚ x)
      turn a x s t = simp ring

  all_units : whole (S * T) ≡ whole 1 *ℚ (whole S *ℚ whole T)
  all_units = whole_times S T ∙ sym (one_times _)

  -- l / S is at most 1 over x, where b units of 1 / T are at least x
  pub low_reciprocal : (b l : ℕ) (x : Fraction) → l * b ≤ S * T → whole T *ℚ x ≤ℚ whole b → l over S *ℚ x ≤ℚ whole 1
  low_reciprocal b l x p h =
      times_le_cancel _ _ (whole S *ℚ whole T) units_pos
      (subst₂ (λ s t. s ≤ℚ t) (sym (in_units l x)) all_units
      (le_trans _ _ _ (times_le_both _ _ _ _ (le_refl (whole l)) h)
      (subst (λ t. t ≤ℚ whole (S * T)) (whole_times l b) (whole_le _ _ p))))

  -- h / S is at least 1 over x, where a units of 1 / T are at most x
  pub high_reciprocal : (a h : ℕ) (x : Fraction) → S * T ≤ h * a → whole a ≤ℚ whole T *ℚ x → whole 1 ≤ℚ h over S *ℚ x
  high_reciprocal a h x p q =
      times_le_cancel _ _ (whole S *ℚ whole T) units_pos
      (subst₂ (λ s t. s ≤ℚ t) all_units (sym (in_units h x))
      (le_trans _ _ _ (subst (λ t. whole (S * T) ≤ℚ t) (whole_times h a) (whole_le _ _ p))
      (times_le_both _ _ _ _ (le_refl (whole h)) q)))

-- the reciprocals of numbers near each other, in units far larger than those of the numbers
pub narrow : (S T a b : ℕ) → 0 < a → a ≤ b → b ≤ a + 128 → T ≤ a → S * 128 ≤ T → div_ceil (S * T) a ≤ S * T / b + 3
narrow S T a b pos order near large scale =
    let n : ℕ = S * T in
    let h : ℕ = div_ceil n a in
    let l : ℕ = n / b in
    let b_pos : 0 < b = omega (arith, pos, order) in
    let up : h * a ≤ n + a = omega (arith, (div_ceil_times n a pos).1) in
    let down : n ≤ l * b + b = omega (arith, lt-div-mul-add {a = n} {b = b} b_pos) in
    let apart : n * b ≤ n * (a + 128) = mul-le-mul_left n near in
    let rest : S * 128 * T ≤ T * T = mul-le-mul_right T scale in
    let square : T * T ≤ a * b = mul-le-mul large (omega (arith, large, order)) in
    le_of_mul-le-mul_right {k = a * b} (omega
    (arith, mul-le-mul_right b up, mul-le-mul_right a down, apart, rest, square)) (mul-pos pos b_pos)

pub reciprocal_fits : (b S T a : ℕ) → b ≤ 56 → S ≡ 2 ^ b → 0 < a → T ≤ a → div_ceil (S * T) a ≤ 2 ^ 56
reciprocal_fits b S T a few scale pos large = omega (arith, part_within S T a pos large, power_le b S 56 scale few)
