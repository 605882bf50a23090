-- Thinning: claims of amount 0 can be left out of a Poisson count.
use Rattle.dl_model.proofs.Common.{◌≡◌, ℕ, zero, sym, ap, ap₂, subst, ◌∙◌, fun_ext, Fraction, ◌*ℚ◌, sum_to, Series, times, SameValue, convolve, power, cell, poisson, IsPositivePart, ring, times_assoc, times_left_comm, times_plus, times_one, whole_pos, sum_to_same, sum_pairs_same, one_pos}
use Rattle.dl_model.proofs.TotalLaws.{next_of, poisson_zero, poisson_plus, poisson_bound, AreLevel, cauchy_level, same_value, value_trans, cancel_value, sum_rises_to}
use Rattle.dl_model.proofs.Thin.{split}

module _ (v : Fraction) (f : ℕ → Fraction) (p : Fraction) (g : ℕ → Fraction) (h : IsPositivePart f p g) where
  abbrev none : ℕ → Fraction
  none = poisson (v *ℚ f zero)

  abbrev some : ℕ → Fraction
  some = poisson (v *ℚ p)

  split_poisson : (n y : ℕ) → poisson v n *ℚ power f n y ≡ convolve none (λ j. some j *ℚ power g j y) n
  split_poisson n y = split f p g h (poisson v) (λ n. v) (λ i j. poisson (v *ℚ f zero) i *ℚ poisson (v *ℚ p) j)
      (poisson_zero v ∙ sym (ap₂ (λ s t. s *ℚ t) (poisson_zero _) (poisson_zero _) ∙ times_one _)) (next_of v)
      (λ i j. sym (times_assoc _ _ _) ∙ ap (λ s. s *ℚ poisson (v *ℚ p) j) (next_of (v *ℚ f zero) i) ∙ simp ring)
      (λ i j. times_left_comm _ _ _ ∙ ap (λ s. poisson (v *ℚ f zero) i *ℚ s) (next_of (v *ℚ p) j) ∙ simp ring) n y
      ∙ sum_pairs_same n _ _ (λ i j e. times_assoc _ _ _)

  split_all : (n : ℕ) → poisson v n ≡ convolve none some n
  split_all n = ap (λ t. poisson t n) (sym (times_one v) ∙ ap (λ t. v *ℚ t) (sym h.share) ∙ times_plus v (f zero) p)
      ∙ poisson_plus (v *ℚ f zero) (v *ℚ p) n

  -- thinning: claims of amount 0 can be left out of a Poisson count
  pub thin_poisson : (y : ℕ) → SameValue (cell (poisson v) f y) (λ N. sum_to N (poisson v))
      (cell (poisson (v *ℚ p)) g y) (λ N. sum_to N (poisson (v *ℚ p)))
  unfolding sum_to
  thin_poisson y =
      let E : Series = λ N. sum_to N none in
      let Q : Series = cell (poisson (v *ℚ p)) g y in
      let R : Series = λ N. sum_to N some in
      let q : ℕ → Fraction = λ j. some j *ℚ power g j y in
      value_trans _ _ (times E Q) (times E R) _ _
      (same_value _ _ (times E Q) (times E R)
      (subst (λ X. AreLevel X (times E Q)) (fun_ext (λ N. sum_to_same N _ _ (λ n b. sym (split_poisson n y))))
      (cauchy_level none q))
      (subst (λ X. AreLevel X (times E R)) (fun_ext (λ N. sum_to_same N _ _ (λ n b. sym (split_all n))))
      (cauchy_level none some)))
      (cancel_value E (sum_rises_to none) _ zero (poisson_bound (v *ℚ f zero))
      (rw (poisson_zero (v *ℚ f zero)) (whole_pos 1 one_pos)) Q R (sum_rises_to q) (sum_rises_to some))
