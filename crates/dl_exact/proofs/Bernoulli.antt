-- Bernoulli's inequality, and powers of at most 1.
use Rattle.dl_exact.proofs.Common.{◌≡◌, ℕ, suc, zero, sym, ap, subst, ◌∙◌, Fraction, whole, ◌+ℚ◌, ◌*ℚ◌, ◌≤ℚ◌, ◌^ℚ◌}
use Rattle.dl_exact.proofs.Laws.{ring, le_refl, le_trans, le_of_eq, le_plus, plus_zero, times_one, zero_times, times_le_both, whole_suc}

pub bernoulli : (x : Fraction) (n : ℕ) → whole 1 +ℚ whole n *ℚ x ≤ℚ (whole 1 +ℚ x) ^ℚ n
unfolding ◌^ℚ◌
bernoulli x zero = le_of_eq _ _ (ap (λ t. whole 1 +ℚ t) (zero_times x) ∙ plus_zero (whole 1))
bernoulli x (suc n) =
    le_trans _ _ _ (subst (λ t. whole 1 +ℚ whole (suc n) *ℚ x ≤ℚ t) (sym product) (le_plus _ _))
    (times_le_both _ _ _ _ (le_refl (whole 1 +ℚ x)) (bernoulli x n))
  where
    turn : (a x : Fraction) → (whole 1 +ℚ x) *ℚ (whole 1 +ℚ a *ℚ x) ≡ whole 1 +ℚ (a +ℚ whole 1) *ℚ x +ℚ a *ℚ (x *ℚ x)
    turn a x = simp ring

    product : (whole 1 +ℚ x) *ℚ (whole 1 +ℚ whole n *ℚ x)
        ≡ whole 1 +ℚ whole (suc n) *ℚ x +ℚ whole n *ℚ (x *ℚ x)
    product = turn (whole n) x ∙ ap (λ t. whole 1 +ℚ t *ℚ x +ℚ whole n *ℚ (x *ℚ x)) (sym (whole_suc n))

pub pow_below_one : (x : Fraction) (n : ℕ) → x ≤ℚ whole 1 → x ^ℚ n ≤ℚ whole 1
unfolding ◌^ℚ◌
pow_below_one x zero h = le_refl _
pow_below_one x (suc n) h = subst (λ t. x *ℚ x ^ℚ n ≤ℚ t) (times_one (whole 1))
    (times_le_both _ _ _ _ h (pow_below_one x n h))
