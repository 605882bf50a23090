-- Gamma counts of any shape: how they grow with it, their bounds, and the square root of a start.
use Rattle.dl_model.proofs.Common.{◌≡◌, ℕ, suc, zero, arith, sym, ap, subst, subst₂, ◌∙◌, zero-lt-suc, fun_ext, Fraction, ◌+ℚ◌, ◌*ℚ◌, ◌/ℚ◌, ◌≤ℚ◌, ◌<ℚ◌, whole, sum_to, IsBound, IsLeastBound, times, at_zero, gamma, product_below, ◌^ℚ◌, ring, one_pos, pow_times, zero_plus, times_comm, times_zero, zero_times, times_one, whole_pos, whole_le, le_refl, le_trans, le_of_eq, le_of_lt, archimedes, plus_le_both, times_le_both, times_le_cancel, div_times, sum_to_le, sum_to_same}
use Rattle.dl_model.proofs.ValueLaws.{sum_at_zero, cauchy_level, AreLevel}
use Rattle.dl_model.proofs.Least.{least_const}
use Rattle.dl_model.proofs.Gamma.{gamma_zero, gamma_next, gamma_plus, gamma_least, over_next}

-- ---- weights

-- no weight falls as the shape grows
pub gamma_le : (r t x : Fraction) → r ≤ℚ t → (n : ℕ) → gamma r x n ≤ℚ gamma t x n
gamma_le r t x h zero = le_of_eq _ _ (gamma_zero r x ∙ sym (gamma_zero t x))
gamma_le r t x h (suc n) =
    times_le_cancel _ _ (whole (suc n)) (whole_pos (suc n) (zero-lt-suc n))
    (subst₂ (λ a b. a ≤ℚ b) (sym (times_comm _ _ ∙ gamma_next r x n)) (sym (times_comm _ _ ∙ gamma_next t x n))
    (times_le_both _ _ _ _ (plus_le_both _ _ _ _ h (le_refl (whole n)))
    (times_le_both _ _ _ _ (le_refl x) (gamma_le r t x h n))))

-- of shape 0 there is no claim
pub gamma_none : (x : Fraction) (n : ℕ) → gamma (whole 0) x n ≡ at_zero n
unfolding at_zero
gamma_none x zero = gamma_zero (whole 0) x
gamma_none x (suc n) = over_next n _ _ (gamma_next (whole 0) x n ∙ none n (gamma_none x n) ∙ sym (times_zero _))
  where
    none : (n : ℕ) → gamma (whole 0) x n ≡ at_zero n → (whole 0 +ℚ whole n) *ℚ (x *ℚ gamma (whole 0) x n) ≡ whole 0
    none zero e = ap (λ t. t *ℚ (x *ℚ gamma (whole 0) x zero)) (zero_plus _) ∙ zero_times _
    none (suc n) e = ap (λ t. (whole 0 +ℚ whole (suc n)) *ℚ (x *ℚ t)) e
        ∙ ap (λ t. (whole 0 +ℚ whole (suc n)) *ℚ t) (times_zero x) ∙ times_zero _

-- by a part of the parameter
pub gamma_part : (r x y : Fraction) (n : ℕ) → gamma r (x *ℚ y) n ≡ gamma r x n *ℚ y ^ℚ n
unfolding gamma
gamma_part r x y n =
    let P = product_below n (λ i. (r +ℚ whole i) /ℚ whole (suc i)) in
    ap (λ t. P *ℚ t) (pow_times x y n) ∙ simp ring

-- ---- bounds

-- a whole shape above a shape
pub shape_above : (r : Fraction) → (s : ℕ) × (r ≤ℚ whole (suc s))
shape_above r =
    let a = archimedes r (whole 1) (whole_pos 1 one_pos) in
    (a.0, le_trans _ _ _ (rw times_one at (le_of_lt _ _ a.1)) (whole_le a.0 (suc a.0) (omega arith)))

module _ (x d : Fraction) (one : x +ℚ d ≡ whole 1) (dp : whole 0 <ℚ d) where
  pub gamma_bound : (r : Fraction) → (u : Fraction) × IsBound (λ N. sum_to N (gamma r x)) u
  gamma_bound r =
      let a = shape_above r in
      let L = whole 1 /ℚ d in (
        L ^ℚ suc a.0,
        λ N. le_trans _ _ _ (sum_to_le N _ _ (λ n b. gamma_le r (whole (suc a.0)) x a.1 n))
            ((gamma_least x d one L dp (div_times (whole 1) d dp) a.0).0 N),
      )

  -- the sums of a whole shape, 0 among them
  pub whole_least : (L : Fraction) → L *ℚ d ≡ whole 1 → (j : ℕ)
      → IsLeastBound (λ N. sum_to N (gamma (whole j) x)) (L ^ℚ j)
  unfolding ◌^ℚ◌
  whole_least L e zero = subst (λ Q. IsLeastBound Q (whole 1))
      (fun_ext (λ N. sym (sum_to_same N _ _ (λ n b. gamma_none x n) ∙ sum_at_zero N))) (least_const (whole 1))
  whole_least L e (suc s) = gamma_least x d one L dp e s

-- the sums of the sum of two shapes, and their products
pub shapes_level : (r t x : Fraction)
    → AreLevel (λ N. sum_to N (gamma (r +ℚ t) x)) (times (λ N. sum_to N (gamma r x)) (λ N. sum_to N (gamma t x)))
shapes_level r t x = subst (λ Q. AreLevel Q (times (λ N. sum_to N (gamma r x)) (λ N. sum_to N (gamma t x))))
    (fun_ext (λ N. sum_to_same N _ _ (λ n b. sym (gamma_plus r t x n)))) (cauchy_level (gamma r x) (gamma t x))
