-- Claims of amount 0 taken out of a count.
use Rattle.dl_model.proofs.Common.{◌≡◌, ℕ, suc, zero, ◌+◌, sym, ap, ap₂, ◌∙◌, zero-lt-suc, fun_ext, Fraction, ◌+ℚ◌, ◌*ℚ◌, whole, sum_pairs, convolve, at_zero, power, IsPositivePart, ring, times_comm, times_assoc, whole_pos, times_cancel, sum_pairs_same, sum_pairs_plus, sum_pairs_times, sum_pairs_weighed, sum_pairs_swap}
use Rattle.dl_model.proofs.Powers.{at_zero_convolve, convolve_times}

-- f is its weight at 0 and p times g
parts : (f : ℕ → Fraction) (p : Fraction) (g : ℕ → Fraction) → IsPositivePart f p g → (j : ℕ)
    → f j ≡ f zero *ℚ at_zero j +ℚ p *ℚ g j
unfolding at_zero
parts f p g h zero = rw h.no_zero (simp ring)
parts f p g h (suc j) = h.above j ∙ simp ring

convolve_parts : (f : ℕ → Fraction) (p : Fraction) (g : ℕ → Fraction)
    → IsPositivePart f p g → (H : ℕ → Fraction) (y : ℕ) → convolve f H y ≡ f zero *ℚ H y +ℚ p *ℚ convolve g H y
convolve_parts f p g h H y = sum_pairs_same y _ _ (λ i j e. ap (λ t. t *ℚ H j) (parts f p g h i) ∙ simp ring)
    ∙ sum_pairs_plus y (λ i j. f zero *ℚ (at_zero i *ℚ H j)) (λ i j. p *ℚ (g i *ℚ H j))
    ∙ ap₂ (λ x y. x +ℚ y) (sum_pairs_times y (f zero) (λ i j. at_zero i *ℚ H j)
    ∙ ap (λ t. f zero *ℚ t y) (at_zero_convolve H)) (sum_pairs_times y p (λ i j. g i *ℚ H j))

-- Count weights w whose next weight is k n / (n + 1) times the last split over claims of amount 0 and of other amounts,
-- by numbers t with the like steps in both directions.
module _ (f : ℕ → Fraction) (p : Fraction) (g : ℕ → Fraction) (h : IsPositivePart f p g)
    (w k : ℕ → Fraction) (t : ℕ → ℕ → Fraction)
    (start : w zero ≡ t zero zero)
    (next : (n : ℕ) → whole (suc n) *ℚ w (suc n) ≡ k n *ℚ w n)
    (left : (i j : ℕ) → whole (suc i) *ℚ t (suc i) j ≡ k (i + j) *ℚ (f zero *ℚ t i j))
    (right : (i j : ℕ) → whole (suc j) *ℚ t i (suc j) ≡ k (i + j) *ℚ (p *ℚ t i j)) where
  abbrev split_sum : ℕ → ℕ → Fraction
  split_sum n y = sum_pairs n (λ i j. t i j *ℚ power g j y)

  split_next : (n y : ℕ) → whole (suc n) *ℚ split_sum (suc n) y ≡ k n *ℚ convolve f (split_sum n) y
  unfolding power
  split_next n y =
      sum_pairs_weighed n (λ i j. t i j *ℚ power g j y) ∙ sym (sum_pairs_plus n _ _)
      ∙ sum_pairs_same n _ (λ i j. k n *ℚ (f zero *ℚ (t i j *ℚ power g j y) +ℚ p *ℚ (t i j *ℚ convolve g (power g j) y)))
      (λ i j e. ap₂ (λ a b. a +ℚ b)
      (sym (times_assoc _ _ _) ∙ ap (λ s. s *ℚ power g j y) (left i j ∙ ap (λ s. k s *ℚ (f zero *ℚ t i j)) e))
      (sym (times_assoc _ _ _) ∙ ap (λ s. s *ℚ convolve g (power g j) y) (right i j ∙ ap (λ s. k s *ℚ (p *ℚ t i j)) e))
      ∙ simp ring)
      ∙ sum_pairs_times n (k n) _ ∙ ap (λ s. k n *ℚ s) (sum_pairs_plus n _ _ ∙ ap₂ (λ a b. a +ℚ b)
      (sum_pairs_times n (f zero) _) (sum_pairs_times n p _ ∙ ap (λ s. p *ℚ s)
      (sum_pairs_same n _ _ (λ i j e. sym (convolve_times (t i j) g (power g j) y)) ∙ turned n y))
      ∙ sym (convolve_parts f p g h (split_sum n) y))
    where
      turned : (n y : ℕ) → sum_pairs n (λ i j. convolve g (λ s. t i j *ℚ power g j s) y) ≡ convolve g (split_sum n) y
      turned n y = sum_pairs_swap n y (λ i j q s. g q *ℚ (t i j *ℚ power g j s))
          ∙ sum_pairs_same y _ _ (λ q s e. sum_pairs_times n (g q) (λ i j. t i j *ℚ power g j s))

  pub split : (n y : ℕ) → w n *ℚ power f n y ≡ sum_pairs n (λ i j. t i j *ℚ power g j y)
  unfolding power sum_pairs
  split zero y = ap (λ s. s *ℚ at_zero y) start
  split (suc n) y = times_cancel _ _ (whole (suc n)) (whole_pos (suc n) (zero-lt-suc n))
      (times_comm _ _ ∙ sym (times_assoc _ _ _) ∙ ap (λ s. s *ℚ convolve f (power f n) y) (next n) ∙ times_assoc _ _ _
      ∙ ap (λ s. k n *ℚ s) (sym (convolve_times (w n) f (power f n) y) ∙ ap (λ H. convolve f H y) (fun_ext (split n)))
      ∙ sym (split_next n y) ∙ times_comm _ _)
