-- One step of the recursion and one shift, over whole numbers that stand round 2 ^ 61 * r.
use Rattle.dl_recursion.proofs.Common.{◌≡◌, ℕ, suc, zero, ◌+◌, ◌-◌, ◌*◌, ◌/◌, ◌^◌, ◌<◌, ◌≤◌, List, get_or, arith, refl, sym, ap, ◌∙◌, mul-le-mul_right, div-mul-le_self, pow-add, zero-lt-suc, Fraction, ◌+ℚ◌, ◌*ℚ◌, ◌≤ℚ◌, whole, count_pairs, times_comm, whole_plus, whole_times, whole_pos, le_refl, le_trans, times_le_cancel, times_le_both, whole_le, EncloseScaled, times_assoc, times_left_comm, sum_pairs_same, sum_pairs_times, sum_pairs_times_right, sum_pairs_le, times_right_comm, sum_pairs}
use Rattle.dl_start.proofs.Rounding.{ceil_reaches, ceil_least}

-- a sum of whole numbers as a sum of fractions
as_sum : (n : ℕ) (f : ℕ → ℕ → ℕ) → whole (count_pairs n f) ≡ sum_pairs n (λ i k. whole (f i k))
unfolding count_pairs sum_pairs
as_sum zero f = refl
as_sum (suc n) f = whole_plus _ _ ∙ ap (λ t. whole (f zero (suc n)) +ℚ t) (as_sum n (λ i k. f (suc i) k))

pub scaled_sum : (n P : ℕ) (f : ℕ → ℕ → ℕ) (g : ℕ → ℕ)
    → whole (count_pairs n (λ i k. f i k * g k)) *ℚ whole P ≡ sum_pairs n (λ i k. whole (f i k) *ℚ whole (g k * P))
scaled_sum n P f g =
    ap (λ t. t *ℚ whole P) (as_sum n (λ i k. f i k * g k))
    ∙ sym (sum_pairs_times_right n (whole P) (λ i k. whole (f i k * g k)))
    ∙ sum_pairs_same n _ _ (λ i k e. simp (whole_times, times_assoc))

module _ (n D P : ℕ) (C : Fraction) (f : ℕ → ℕ → ℕ) (r : ℕ → Fraction) (D_pos : 0 < D)
    (next : whole D *ℚ r (suc n) ≡ sum_pairs n (λ i k. whole (f i k) *ℚ r k)) where
  turned : sum_pairs n (λ i k. whole (f i k) *ℚ (C *ℚ r k)) ≡ C *ℚ r (suc n) *ℚ whole D
  turned =
      sum_pairs_same n _ _ (λ i k e. times_left_comm _ _ _) ∙ sum_pairs_times n C (λ i k. whole (f i k) *ℚ r k)
      ∙ ap (λ t. C *ℚ t) (sym next ∙ times_comm _ _) ∙ sym (times_assoc _ _ _)

  swap : (x : ℕ) → whole (x * D) *ℚ whole P ≡ whole (x * P) *ℚ whole D
  swap x = rw (whole_times, whole_times, times_right_comm)

  pub low_step : (g : ℕ → ℕ) (x : ℕ) → x * D ≤ count_pairs n (λ i k. f i k * g k)
      → ((k : ℕ) → k ≤ n → whole (g k * P) ≤ℚ C *ℚ r k) → whole (x * P) ≤ℚ C *ℚ r (suc n)
  low_step g x p h =
      times_le_cancel _ _ (whole D) (whole_pos D D_pos) (rw (← swap x, ← turned)
      (le_trans _ _ _ (times_le_both _ _ _ _ (whole_le _ _ p) (le_refl (whole P))) (rw (scaled_sum n P f g)
      (sum_pairs_le n _ _ (λ i k e. times_le_both _ _ _ _ (le_refl _) (h k (omega arith)))))))

  pub high_step : (g : ℕ → ℕ) (x : ℕ) → count_pairs n (λ i k. f i k * g k) ≤ x * D
      → ((k : ℕ) → k ≤ n → C *ℚ r k ≤ℚ whole (g k * P)) → C *ℚ r (suc n) ≤ℚ whole (x * P)
  high_step g x p h =
      times_le_cancel _ _ (whole D) (whole_pos D D_pos) (rw (← swap x, ← turned)
      (le_trans _ (whole (count_pairs n (λ i k. f i k * g k)) *ℚ whole P) _ (rw (scaled_sum n P f g)
      (sum_pairs_le n _ _ (λ i k e. times_le_both _ _ _ _ (le_refl _) (h k (omega arith)))))
      (times_le_both _ _ _ _ (whole_le _ _ p) (le_refl (whole P)))))

-- ---- the shift by 8 bits

pub shift_low : (x e : ℕ) → x / 256 * 2 ^ (e + 8) ≤ x * 2 ^ e
shift_low x e = rw (pow-add 2 e 8) (omega (arith, mul-le-mul_right (2 ^ e) (div-mul-le_self x 256)))

pub shift_high : (x e : ℕ) → x * 2 ^ e ≤ (x + 255) / 256 * 2 ^ (e + 8)
shift_high x e = rw (pow-add 2 e 8) (omega (arith, mul-le-mul_right (2 ^ e) (ceil_reaches x 256 (zero-lt-suc 255))))

pub shifted : (r : ℕ → Fraction) (e n : ℕ) (low high low' high' : List ℕ)
    → ((k : ℕ) → get_or low' k 0 ≡ get_or low k 0 / 256) → ((k : ℕ) → get_or high' k 0 ≡ (get_or high k 0 + 255) / 256)
    → EncloseScaled r e n low high → EncloseScaled r (e + 8) n low' high'
shifted r e n low high low' high' p q h = record {
  low_end = λ k b. rw (p k) (le_trans _ _ _ (whole_le _ _ (shift_low (get_or low k 0) e)) (h.low_end k b));
  high_end = λ k b. rw (q k) (le_trans _ _ _ (h.high_end k b) (whole_le _ _ (shift_high (get_or high k 0) e)));
}

pub shift_down_top : (h k : ℕ) → k < 8 → h ≤ 2 ^ (126 - 8 * k) → (h + 255) / 256 ≤ 2 ^ (126 - 8 * (k + 1))
shift_down_top h k l p =
    let e : 126 - 8 * k ≡ 126 - 8 * (k + 1) + 8 = omega (arith, l) in
    ceil_least h 256 (2 ^ (126 - 8 * (k + 1))) (zero-lt-suc 255) (omega (arith, rw (e, pow-add) at p))
