-- Poisson counts: their weights, sums and bounds.
use Rattle.dl_model.proofs.Common.{◌≡◌, ℕ, suc, zero, ◌+◌, ◌*◌, ◌^◌, ◌<◌, ◌≤◌, arith, sym, ap, ap₂, ◌∙◌, mul-pos, pow-suc, one-le-pow, zero-lt-suc, pow-zero, Fraction, ◌+ℚ◌, ◌*ℚ◌, ◌≤ℚ◌, whole, sum_to, sum_pairs, over_same, over_mul, over_self, over_le, one_pos, times_comm, times_one, times_cancel, le_trans, times_le_times, times_le_cancel, plus_times, whole_pos, whole_le, halving_bound, IsBound, convolve, poisson, mul-le-mul, le-mul_of_pos_right, factorial, factorial_pos, refl}
use Rattle.dl_model.proofs.Powers.{convolve_next}

poisson_den : (v : Fraction) (n : ℕ) → 0 < v.den ^ n * factorial n
poisson_den v n = mul-pos (one-le-pow n v.den v.positive) (factorial_pos n)

pub poisson_zero : (v : Fraction) → poisson v zero ≡ whole 1
unfolding poisson factorial
poisson_zero v = over_same _ _ _ _ (poisson_den v zero) one_pos (simp pow-zero (omega arith))

-- (n + 1) * w(n + 1) = v * w(n)
pub poisson_next : (v : Fraction) (n : ℕ) → poisson v (suc n) *ℚ whole (suc n) ≡ v *ℚ poisson v n
unfolding poisson factorial
poisson_next v n =
    over_mul _ _ (suc n) 1 (poisson_den v (suc n)) one_pos ∙ over_same _ _ _ _ (mul-pos (poisson_den v (suc n)) one_pos)
    (mul-pos v.positive (poisson_den v n)) (simp pow-suc (omega arith))
    ∙ sym (over_mul v.num v.den _ _ v.positive (poisson_den v n)) ∙ ap (λ t. t *ℚ poisson v n) (over_self v)

-- ---- bounds

twice_below : (v : Fraction) (n : ℕ) → v.num + v.num ≤ n → v +ℚ v ≤ℚ whole (suc n)
unfolding ◌+ℚ◌
twice_below v n h =
    let wide : (v.num + v.num) * v.den ≤ suc n * (v.den * v.den) =
    mul-le-mul (omega arith) (le-mul_of_pos_right v.den v.positive) in
    over_le _ _ _ _ (mul-pos v.positive v.positive) one_pos (omega (arith, wide))

-- where twice the mean is at most n + 1, the next weight is at most half of the last
halves : (v : Fraction) (n : ℕ) → v +ℚ v ≤ℚ whole (suc n) → poisson v (suc n) +ℚ poisson v (suc n) ≤ℚ poisson v n
halves v n twice =
    let S = whole (suc n) in
    times_le_cancel _ _ S (whole_pos (suc n) (zero-lt-suc n)) (rw (
      plus_times,
      poisson_next v n,
      ← plus_times,
      times_comm (poisson v n),
    ) (times_le_times _ _ (poisson v n) twice))

pub poisson_halves : (v : Fraction) (n : ℕ) → v.num + v.num ≤ n → poisson v (suc n) +ℚ poisson v (suc n) ≤ℚ poisson v n
poisson_halves v n h = halves v n (twice_below v n h)

pub poisson_bound_from : (v : Fraction) (K : ℕ) → v +ℚ v ≤ℚ whole (suc K)
    → IsBound (λ N. sum_to N (poisson v)) (sum_to K (poisson v) +ℚ poisson v K)
poisson_bound_from v K h =
    halving_bound (poisson v) K (λ n b. halves v n (le_trans _ _ _ h (whole_le (suc K) (suc n) (omega arith))))

pub poisson_bound : (v : Fraction) → IsBound (λ N. sum_to N (poisson v))
    (sum_to (v.num + v.num) (poisson v) +ℚ poisson v (v.num + v.num))
poisson_bound v = halving_bound (poisson v) (v.num + v.num) (poisson_halves v)

-- ---- sums

pub next_of : (v : Fraction) (n : ℕ) → whole (suc n) *ℚ poisson v (suc n) ≡ v *ℚ poisson v n
next_of v n = times_comm _ _ ∙ poisson_next v n

-- the sum of two Poisson counts is one
pub poisson_plus : (u v : Fraction) (n : ℕ) → poisson (u +ℚ v) n ≡ convolve (poisson u) (poisson v) n
unfolding sum_pairs
poisson_plus u v zero =
    poisson_zero (u +ℚ v) ∙ sym (ap₂ (λ s t. s *ℚ t) (poisson_zero u) (poisson_zero v) ∙ times_one _)
poisson_plus u v (suc n) = times_cancel _ _ (whole (suc n))
    (whole_pos (suc n) (zero-lt-suc n)) (poisson_next (u +ℚ v) n ∙ ap (λ t. (u +ℚ v) *ℚ t) (poisson_plus u v n)
    ∙ sym (convolve_next n (poisson u) (poisson v) (λ i. u) (λ j. v) (u +ℚ v) (next_of u) (next_of v) (λ i j e. refl))
    ∙ times_comm _ _)
