-- Horner's rule: a compound sum by one convolution for each count, the greatest first.
use Rattle.dl_model.proofs.Common.{◌≡◌, ℕ, suc, zero, ◌+◌, ◌*◌, ◌<◌, ◌≤◌, arith, sym, ap, ap₂, ◌∙◌, mul-pos, mul-le-mul_right, ne_eqb, if◌then◌else◌, ◌==◌, Fraction, ◌over◌, ◌+ℚ◌, ◌*ℚ◌, ◌≤ℚ◌, sum_to, sum_pairs, over_le, times_left_comm, times_one, times_zero, le_trans, plus_le_both, times_le_both, sum_to_same, sum_to_first, sum_to_times, sum_pairs_same, sum_pairs_times, sum_pairs_sum_to, count_pairs, over_plus, pairs_in_units, convolve, at_zero, power, cell, sum_pairs_le, cell_from, over_zero, add-zero, zero-add, times_le_times}

module _ (w f : ℕ → Fraction) where
  -- the greatest count
  pub horner_start : (k s : ℕ) → cell_from w f k s 0 ≡ w k *ℚ at_zero s
  unfolding sum_to power
  horner_start k s = ap (λ n. w n *ℚ at_zero s) (add-zero k)

  one_more : (k n s : ℕ) → w (k + suc n) *ℚ power f (suc n) s ≡ sum_pairs s
      (λ i j. f i *ℚ (w (suc k + n) *ℚ power f n j))
  unfolding power
  one_more k n s =
      let e : k + suc n ≡ suc k + n = omega arith in
      ap (λ m. w m *ℚ convolve f (power f n) s) e
      ∙ sym (sum_pairs_times s (w (suc k + n)) (λ i j. f i *ℚ power f n j))
      ∙ sum_pairs_same s _ _ (λ i j e. times_left_comm (w (suc k + n)) (f i) (power f n j))

  -- one count less
  pub horner_next : (k s N : ℕ) → cell_from w f k s (suc N) ≡ w k *ℚ at_zero s +ℚ convolve f
      (λ j. cell_from w f (suc k) j N) s
  unfolding power
  horner_next k s N = sum_to_first N (λ n. w (k + n) *ℚ power f n s)
      ∙ ap₂ (λ x y. x +ℚ y) (ap (λ n. w n *ℚ at_zero s) (add-zero k)) (sum_to_same N _ _ (λ n e. one_more k n s)
      ∙ sym (sum_pairs_sum_to s N (λ i j n. f i *ℚ (w (suc k + n) *ℚ power f n j)))
      ∙ sum_pairs_same s _ _ (λ i j e. sum_to_times N (f i) (λ n. w (suc k + n) *ℚ power f n j)))

  -- down to no claim
  pub horner_end : (s N : ℕ) → cell_from w f 0 s N ≡ cell w f s N
  horner_end s N = sum_to_same N _ _ (λ n e. ap (λ m. w m *ℚ power f n s) (zero-add n))

-- ---- outward

module _ (S K k N : ℕ) (w f : ℕ → Fraction) (pos : 0 < S) where
  -- the weight of the count k, at 0
  start_at : (start s : ℕ) → (if s == 0 then start else 0) over S ≡ start over S *ℚ at_zero s
  unfolding at_zero
  start_at start zero = sym (times_one _)
  start_at start (suc s) = rw (ne_eqb (suc s) 0 (omega arith)) (over_zero S pos ∙ sym (times_zero _))

  pub horner_low : (lo low next : ℕ → ℕ) (start : ℕ) → ((i : ℕ) → i < K → lo i over S ≤ℚ f i)
      → ((j : ℕ) → j < K → low j over S ≤ℚ cell_from w f (suc k) j N)
      → start over S ≤ℚ w k → ((s : ℕ) → s < K → next s * S ≤ count_pairs s (λ i j. lo i * low j))
      → (s : ℕ) → s < K → ((if s == 0 then start else 0) + next s) over S ≤ℚ cell_from w f k s (suc N)
  horner_low lo low next start a b c d s h =
      rw (← over_plus (if s == 0 then start else 0) (next s) S pos, horner_next w f k s N)
      (plus_le_both _ _ _ _ (rw (start_at start s) (times_le_times _ _ (at_zero s) c))
      (le_trans _ (count_pairs s (λ i j. lo i * low j) over (S * S)) _
      (over_le _ _ _ _ pos (mul-pos pos pos) (omega (arith, mul-le-mul_right S (d s h)))) (rw (← pairs_in_units s S lo low pos)
      (sum_pairs_le s _ _ (λ i j e. times_le_both _ _ _ _ (a i (omega arith)) (b j (omega arith)))))))

  pub horner_high : (hi high next : ℕ → ℕ) (start : ℕ) → ((i : ℕ) → i < K → f i ≤ℚ hi i over S)
      → ((j : ℕ) → j < K → cell_from w f (suc k) j N ≤ℚ high j over S)
      → w k ≤ℚ start over S → ((s : ℕ) → s < K → count_pairs s (λ i j. hi i * high j) ≤ next s * S)
      → (s : ℕ) → s < K → cell_from w f k s (suc N) ≤ℚ ((if s == 0 then start else 0) + next s) over S
  horner_high hi high next start a b c d s h =
      rw (← over_plus (if s == 0 then start else 0) (next s) S pos, horner_next w f k s N)
      (plus_le_both _ _ _ _ (rw (start_at start s) (times_le_times _ _ (at_zero s) c))
      (le_trans _ _ _ (sum_pairs_le s _ _ (λ i j e. times_le_both _ _ _ _ (a i (omega arith)) (b j (omega arith))))
      (rw (pairs_in_units s S hi high pos)
      (over_le _ _ _ _ (mul-pos pos pos) pos (omega (arith, mul-le-mul_right S (d s h)))))))
