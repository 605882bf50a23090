-- The laws of powers of fractions and of factorials.
use Rattle.dl_exact.proofs.Common.{◌≡◌, ℕ, suc, zero, ◌+◌, ◌<◌, sym, ap, ◌∙◌, mul-pos, zero-lt-suc, Fraction, whole, ◌*ℚ◌, ◌<ℚ◌, zero-add, suc-add, ◌^ℚ◌, factorial}
use Rattle.dl_exact.proofs.Laws.{ring, one_pos, one_times, times_one, times_assoc, times_pos, whole_pos}

pub pow_plus : (x : Fraction) (m n : ℕ) → x ^ℚ (m + n) ≡ x ^ℚ m *ℚ x ^ℚ n
unfolding ◌^ℚ◌
pow_plus x zero n = ap (λ k. x ^ℚ k) (zero-add n) ∙ sym (one_times _)
pow_plus x (suc m) n =
    ap (λ k. x ^ℚ k) (suc-add m n) ∙ ap (λ t. x *ℚ t) (pow_plus x m n) ∙ sym (times_assoc _ _ _)

pub pow_times : (x y : Fraction) (n : ℕ) → (x *ℚ y) ^ℚ n ≡ x ^ℚ n *ℚ y ^ℚ n
unfolding ◌^ℚ◌
pow_times x y zero = sym (times_one _)
pow_times x y (suc n) = ap (λ t. x *ℚ y *ℚ t) (pow_times x y n) ∙ simp ring

pub factorial_pos : (n : ℕ) → 0 < factorial n
unfolding factorial
factorial_pos zero = one_pos
factorial_pos (suc n) = mul-pos (zero-lt-suc n) (factorial_pos n)
