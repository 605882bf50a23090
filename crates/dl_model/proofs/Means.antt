-- Means: of a compound sum, and of a unit without an aggregate clause.
use Rattle.dl_model.proofs.Common.{◌≡◌, ℕ, suc, zero, ◌*◌, ◌≤◌, arith, sym, ap, subst₂, ◌∙◌, mul-le-mul_right, [], ◌∷◌, fun_ext, Fraction, ◌*ℚ◌, whole, sum_to, times_left_comm, times_zero, zero_times, times_one, sum_to_same, sum_to_times, sum_to_swap, sum_to_zero, Holds, convolve, at_zero, power, cell, IsSeverity, Aggregate, IsDeclarable, loss, One, Mean, partial_sums, times_reverse, le_refl_n}
use Rattle.dl_model.proofs.TotalLaws.{sum_convolve, scaled, power_tilt, tilt_at_zero, power_severity, unit_loss, unit_plain, total_alone_all, mean_alone}

module _ (f : ℕ → Fraction) (m : ℕ) (h : IsSeverity f m) where
  -- the mean of one claim
  abbrev severity_mean : Fraction
  severity_mean = sum_to m (λ j. whole j *ℚ f j)

  pub power_mean : (n k : ℕ) → n * m ≤ k → sum_to k (λ s. whole s *ℚ power f n s) ≡ whole n *ℚ severity_mean
  unfolding power at_zero
  power_mean zero k b = sum_to_zero k _ (λ s c. tilt_at_zero s) ∙ sym (zero_times _)
  power_mean (suc n) k b = sum_to_same k _ _ (λ s c. power_tilt f n s)
      ∙ sum_to_times k (whole (suc n)) (convolve (λ j. whole j *ℚ f j) (power f n)) ∙ ap (λ t. whole (suc n) *ℚ t)
      (sum_convolve (λ j. whole j *ℚ f j) (power f n) m (n * m) k (λ j c. ap (λ t. whole j *ℚ t) (h.past j c)
      ∙ times_zero _) (power_severity f m h n).past (omega arith)
      ∙ ap (λ t. severity_mean *ℚ t) ((power_severity f m h n).add_up) ∙ times_one _)

  -- the mean of at most N claims is the mean of one times that of the count
  pub cells_mean : (w : ℕ → Fraction) (N k : ℕ) → N * m ≤ k
      → sum_to k (λ s. whole s *ℚ cell w f s N) ≡ severity_mean *ℚ sum_to N (λ n. whole n *ℚ w n)
  cells_mean w N k b =
      sum_to_same k _ _ (λ s c. sym (sum_to_times N (whole s) (λ n. w n *ℚ power f n s))
      ∙ sum_to_same N _ _ (λ n e. times_left_comm (whole s) (w n) (power f n s)))
      ∙ sum_to_swap k N (λ s n. w n *ℚ (whole s *ℚ power f n s))
      ∙ sum_to_same N _ _ (λ n e.
      let few : n * m ≤ N * m = mul-le-mul_right m e in
      sum_to_times k (w n) (λ s. whole s *ℚ power f n s) ∙ ap (λ t. w n *ℚ t) (power_mean n k (omega arith))
      ∙ times_reverse (w n) (whole n) severity_mean)
      ∙ sum_to_times N severity_mean (λ n. whole n *ℚ w n)

-- ---- of units

pub mean_of_unit : (u : Aggregate) → IsDeclarable u → ((s : ℕ) → u.clause s ≡ s) → (l h : Fraction)
    → Holds (λ N. sum_to N (λ n. whole n *ℚ u.count n)) (λ N. sum_to N u.count) l h
    → Holds (partial_sums (loss u ∷ []) Mean) (partial_sums (loss u ∷ []) One)
    (sum_to u.most (λ j. whole j *ℚ u.severity j) *ℚ l) (sum_to u.most (λ j. whole j *ℚ u.severity j) *ℚ h)
mean_of_unit u is same l h v =
    let E = sum_to u.most (λ j. whole j *ℚ u.severity j) in
    let Q : partial_sums (loss u ∷ []) Mean ≡ (λ N. E *ℚ sum_to N (λ n. whole n *ℚ u.count n)) =
    fun_ext (λ N. mean_alone (loss u) (unit_loss u is) N ∙ sum_to_same (N * u.most) _ _
    (λ y b. ap (λ t. whole y *ℚ t) (unit_plain u is same y N))
    ∙ cells_mean u.severity u.most is.severity u.count N (N * u.most) (le_refl_n _)) in
    subst₂ (λ Q R. Holds Q R (E *ℚ l) (E *ℚ h)) (sym Q) (sym (fun_ext (total_alone_all (loss u) (unit_loss u is))))
    (scaled E (λ N. sum_to N (λ n. whole n *ℚ u.count n)) (λ N. sum_to N u.count) l h v)
