-- The two ends of the exponential enclose it.
use Rattle.dl_panjer.proofs.Common.{ℕ, zero, suc, ◌≡◌, ◌*◌, ◌^◌, ◌≤◌, ◌∙◌, arith, sym, ap, subst₂, mul-pos, div-mul-le_self, zero-lt-suc, Fraction, whole, ◌over◌, ◌*ℚ◌, ◌≤ℚ◌, sum_to, le_refl, le_trans, times_one, times_plus, plus_le_both, whole_plus, times_le_both, ceiling_reaches, exponential_term, exponential_sum, low_sum, high_sum, count_below, low_exponential, high_exponential, exp_low, exp_high, low_term, high_term, le_of_eq, pow_pos}
use Rattle.dl_panjer.proofs.Terms.{term_zero, low_term as low_from_before, high_term as high_from_before, rest_bound}
use Rattle.dl_panjer.proofs.Reciprocals.{low_reciprocal, high_reciprocal}

module _ (x : Fraction) where
  abbrev C : Fraction
  C = whole (2 ^ 63)

  first : C *ℚ exponential_term x 0 ≡ C
  first = ap (λ t. C *ℚ t) (term_zero x) ∙ times_one _

  low_terms : (n : ℕ) → whole (low_term x n) ≤ℚ C *ℚ exponential_term x n
  unfolding low_term
  low_terms zero = le_of_eq _ _ (sym first)
  low_terms (suc n) =
      low_from_before x C n (low_term x n) (low_term x (suc n))
      (div-mul-le_self (low_term x n * x.num) (x.den * suc n)) (low_terms n)

  high_terms : (n : ℕ) → C *ℚ exponential_term x n ≤ℚ whole (high_term x n)
  unfolding high_term
  high_terms zero = le_of_eq _ _ first
  high_terms (suc n) =
      high_from_before x C n (high_term x n) (high_term x (suc n))
      (ceiling_reaches (high_term x n * x.num) (x.den * suc n) (mul-pos x.positive (zero-lt-suc n))) (high_terms n)

  low_sums : (n : ℕ) → whole (count_below (suc n) (low_term x)) ≤ℚ C *ℚ exponential_sum x n
  unfolding low_term count_below sum_to
  low_sums zero = low_terms zero
  low_sums (suc n) = low_sum C (exponential_term x) n _ _ (low_sums n) (low_terms (suc n))

  high_sums : (n : ℕ) → C *ℚ exponential_sum x n ≤ℚ whole (count_below (suc n) (high_term x))
  unfolding high_term count_below sum_to
  high_sums zero = high_terms zero
  high_sums (suc n) = high_sum C (exponential_term x) n _ _ (high_sums n) (high_terms (suc n))

  -- the terms up to the first alone are a whole unit of the sums
  one_low : (n : ℕ) → 2 ^ 63 ≤ count_below (suc n) (low_term x)
  unfolding low_term count_below
  one_low zero = omega arith
  one_low (suc n) = omega (arith, one_low n)

  pub high_above : x ≤ℚ 1 over 2 → (N : ℕ) → C *ℚ exponential_sum x N ≤ℚ whole (high_exponential x)
  high_above half N =
      le_trans _ _ _ (times_le_both _ _ _ _ (le_refl C) (rest_bound x half 18 N))
      (subst₂ (λ s t. s ≤ℚ t) (sym (times_plus C (exponential_sum x 18) (exponential_term x 18)))
      (sym (whole_plus (count_below 19 (high_term x)) (high_term x 18)))
      (plus_le_both _ _ _ _ (high_sums 18) (high_terms 18)))

  module _ (B : ℕ) where
    pub low_encloses : x ≤ℚ 1 over 2 → (N : ℕ) → exp_low B x over 2 ^ B *ℚ exponential_sum x N ≤ℚ whole 1
    low_encloses half N =
        low_reciprocal (2 ^ B) (2 ^ 63) (pow_pos B) (omega arith) (high_exponential x) _ _ (div-mul-le_self _ _)
        (high_above half N)

    pub high_encloses : (u : Fraction) → ((N : ℕ) → exponential_sum x N ≤ℚ u) → whole 1 ≤ℚ exp_high B x over 2 ^ B *ℚ u
    high_encloses u bound =
        high_reciprocal (2 ^ B) (2 ^ 63) (pow_pos B) (omega arith) (low_exponential x) _ u
        (ceiling_reaches (2 ^ B * 2 ^ 63) (low_exponential x) (omega (arith, one_low 18)))
        (le_trans _ _ _ (low_sums 18) (times_le_both _ _ _ _ (le_refl C) (bound 18)))
