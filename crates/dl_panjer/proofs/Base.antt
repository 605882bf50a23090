-- A grid that follows Panjer's recursion from its own cells, rounded outward, encloses the compound sum.
use Rattle.dl_panjer.proofs.Common.{◌≡◌, inl, inr, ℕ, suc, zero, ◌<◌, ◌≤◌, arith, sym, ap, ◌∙◌, mul-pos, Fraction, ◌over◌, ◌*ℚ◌, ◌≤ℚ◌, whole, sum_to, over_same, over_mul, over_le, one_pos, ring, one_times, le_refl, le_trans, le_of_eq, times_le_times, times_le_both, sum_pairs_same, sum_pairs_times, AtLeast, cell, IsPanjer, IsWithinOne, compound, from_before, compound_proper, recursion_there, FollowsOutward, times_left_comm, times_zero, times_one, zero_le, sum_pairs_le, times_right_comm, AtMost, at_zero, power, Encloses, Recursion, cell_at_most_one, cell_from_before, cell_zero, at_most_wider}

pub in_units : (S n : ℕ) → 0 < S → n over S ≡ whole n *ℚ 1 over S
in_units S n h = sym (over_mul n 1 1 S one_pos h ∙ over_same _ _ _ _ (mul-pos one_pos h) h (omega arith))

module _ (a b : Fraction) (f : ℕ → Fraction) where
  before_le : (r t : ℕ → Fraction) (s : ℕ) → ((k : ℕ) → k ≤ s → r k ≤ℚ t k)
      → from_before a b f r s ≤ℚ from_before a b f t s
  before_le r t s h = sum_pairs_le s _ _ (λ i k e. times_le_both _ _ _ _ (le_refl _) (h k (omega arith)))

  before_times : (L : Fraction) (r : ℕ → Fraction) (s : ℕ)
      → from_before a b f (λ k. L *ℚ r k) s ≡ L *ℚ from_before a b f r s
  before_times L r s = sum_pairs_same s _ _ (λ i k e. times_left_comm _ L (r k)) ∙ sum_pairs_times s L _

module _ (S K : ℕ) (a b : Fraction) (f : ℕ → Fraction) (lo hi : ℕ → ℕ) (F : FollowsOutward S K a b f lo hi) where
  -- the low ends stand below the recursion from cell 0
  low_up_to : (r : ℕ → Fraction) → Recursion a b f r → (n s : ℕ) → s ≤ n → s < K
      → whole (lo s) ≤ℚ whole (lo zero) *ℚ r s
  low_up_to r R n zero h i = le_of_eq _ _ (sym (times_one _) ∙ ap (λ t. whole (lo zero) *ℚ t) (sym R.start))
  low_up_to r R zero (suc s) h i = absurd (omega arith)
  low_up_to r R (suc n) (suc s) h i =
      le_trans _ _ _ (F.low s i)
      (le_trans _ _ _ (before_le a b f (λ k. whole (lo k)) (λ k. whole (lo zero) *ℚ r k) s
      (λ k e. low_up_to r R n k (omega arith) (omega (arith, e, i))))
      (le_of_eq _ _ (before_times a b f (whole (lo zero)) r s ∙ ap (λ t. whole (lo zero) *ℚ t) (sym (R.next s)))))

  pub low_below : (r : ℕ → Fraction) → Recursion a b f r → (s : ℕ) → s < K → whole (lo s) ≤ℚ whole (lo zero) *ℚ r s
  low_below r R s i = low_up_to r R s s (omega arith) i

  -- and the high ends above it, while none of them reaches S
  high_up_from : (r : ℕ → Fraction) → Recursion a b f r → (n s : ℕ) → s ≤ n → s < K → ((k : ℕ) → k ≤ s → hi k < S)
      → whole (hi zero) *ℚ r s ≤ℚ whole (hi s)
  high_up_from r R n zero h i d = le_of_eq _ _ (ap (λ t. whole (hi zero) *ℚ t) R.start ∙ times_one _)
  high_up_from r R zero (suc s) h i d = absurd (omega arith)
  high_up_from r R (suc n) (suc s) h i d = elim (F.high s i) [
    | inr far ↦ absurd (omega (arith, d (suc s) (omega arith)))
    | inl near ↦ le_trans _ _ _ (le_of_eq _ _
        (ap (λ t. whole (hi zero) *ℚ t) (R.next s) ∙ sym (before_times a b f (whole (hi zero)) r s)))
        (le_trans _ _ _ (before_le a b f (λ k. whole (hi zero) *ℚ r k) (λ k. whole (hi k)) s
        (λ k e. high_up_from r R n k (omega arith) (omega (arith, e, i)) (λ m b. d m (omega arith)))) near)
  ]

  pub high_above : (r : ℕ → Fraction) → Recursion a b f r → (s : ℕ) → s < K → ((k : ℕ) → k ≤ s → hi k < S)
      → whole (hi zero) *ℚ r s ≤ℚ whole (hi s)
  high_above r R s i d = high_up_from r R s s (omega arith) i d

  module _ (w : ℕ → Fraction) (z : f zero ≡ whole 0) (P : IsPanjer a b w) (pos : 0 < S) (severity : IsWithinOne f)
      (start : AtMost (λ N. whole 1) (λ N. sum_to N w) (hi zero over S)) where
    -- one step of the high ends, at one level and one bound of the weights
    high_step : (s M : ℕ) (u : Fraction) → from_before a b f (λ k. whole (hi k)) s ≤ℚ whole (hi (suc s))
        → ((k : ℕ) → k ≤ s → cell w f k M ≤ℚ hi k over S *ℚ u)
        → cell w f (suc s) (suc M) ≤ℚ hi (suc s) over S *ℚ u
    high_step s M u near h =
        let unit = 1 over S in
        le_trans _ _ _ (le_of_eq _ _ (cell_from_before f w a b z P s M))
        (le_trans _ _ _ (before_le a b f (λ k. cell w f k M) (λ k. unit *ℚ u *ℚ whole (hi k)) s
        (λ k e. rw (turn (hi k) u) at (h k e)))
        (le_trans _ _ _ (le_of_eq _ _ (before_times a b f (unit *ℚ u) (λ k. whole (hi k)) s))
        (le_trans _ _ _ (times_le_both _ _ _ _ (le_refl (unit *ℚ u)) near) (le_of_eq _ _ (sym (turn (hi (suc s)) u))))))
      where
        turned : (x y u : Fraction) → x *ℚ y *ℚ u ≡ y *ℚ u *ℚ x
        turned x y u = simp ring

        turn : (n : ℕ) (u : Fraction) → n over S *ℚ u ≡ 1 over S *ℚ u *ℚ whole n
        turn n u = ap (λ t. t *ℚ u) (in_units S n pos) ∙ turned (whole n) (1 over S) u

    high_at : (s : ℕ) (u : Fraction) → from_before a b f (λ k. whole (hi k)) s ≤ℚ whole (hi (suc s))
        → ((M k : ℕ) → k ≤ s → cell w f k M ≤ℚ hi k over S *ℚ u)
        → (m : ℕ) → cell w f (suc s) m ≤ℚ hi (suc s) over S *ℚ u
    unfolding sum_to power at_zero
    high_at s u near h zero = rw (times_zero _) (zero_le _)
    high_at s u near h (suc M) = high_step s M u near (h M)

    high_up_to : (n s : ℕ) → s ≤ n → s < K → AtMost (cell w f s) (λ N. sum_to N w) (hi s over S)
    high_up_to n zero h i m u below = rw (cell_zero f w a b z P m) (start m u below)
    high_up_to zero (suc s) h i m u below = absurd (omega arith)
    high_up_to (suc n) (suc s) h i m u below = elim (F.high s i) [
      | inr far ↦ at_most_wider (cell w f (suc s)) (λ N. sum_to N w) (whole 1) (hi (suc s) over S)
          (cell_at_most_one (compound w f) (compound_proper w f severity) (suc s))
          (over_le _ _ _ _ one_pos pos (omega arith)) m u below
      | inl near ↦ high_at s u near (λ M k e. high_up_to n k (omega arith) (omega (arith, e, i)) M u below) m
    ]

    pub base_encloses : AtLeast (λ N. whole 1) (λ N. sum_to N w) (lo zero over S) → Encloses S K lo hi (compound w f)
    base_encloses low y h = (low_end, high_up_to y y (omega arith) h)
      where
        low_end : AtLeast (cell w f y) (λ N. sum_to N w) (lo y over S)
        low_end n u bound =
            let unit = 1 over S in
            let r : ℕ → Fraction = λ s. cell w f s s in
            let below : lo y over S ≤ℚ lo zero over S *ℚ r y =
            rw (in_units S (lo y) pos, in_units S (lo zero) pos, times_right_comm (whole (lo zero)) unit (r y))
            (times_le_times _ _ unit (low_below r (recursion_there f w a b z P) y h)) in
            let whole_weight : lo zero over S *ℚ sum_to n w ≤ℚ whole 1 = low n (whole 1) (λ m. le_refl _) in
            le_trans _ _ _ (times_le_times _ _ (sum_to n w) below)
            (rw (times_right_comm (lo zero over S) (sum_to n w) (r y), one_times u) at
            (times_le_both _ _ _ _ whole_weight (bound y)))
