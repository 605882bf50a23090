-- Sums over all i + j up to n, against the product of two sums up to n.
use Rattle.dl_model.proofs.Common.{◌≡◌, ℕ, suc, zero, ◌+◌, ◌≤◌, arith, sym, ap, subst, subst₂, ◌∙◌, suc-add, zero-add, Fraction, ◌+ℚ◌, ◌*ℚ◌, ◌≤ℚ◌, sum_to, sum_pairs, convolve, ring, plus_assoc, le_refl, plus_le_both, le_plus, sum_to_le, sum_to_grows, sum_to_first, sum_to_product, ◌<◌, le_antisymm, le_trans, sum_to_longer, whole, one_times, times_left_comm, times_zero, zero_times, sum_pairs_same, sum_pairs_times, sum_to_same, sum_to_times, sum_to_times_right, sum_to_zero}

-- the row i = 0 apart
pub triangle_first : (n : ℕ) (h : ℕ → ℕ → Fraction)
    → sum_to (suc n) (λ s. sum_pairs s h) ≡ sum_to (suc n) (h zero) +ℚ sum_to n (λ s. sum_pairs s (λ i j. h (suc i) j))
unfolding sum_to sum_pairs
triangle_first zero h = sym (plus_assoc _ _ _)
triangle_first (suc n) h =
    ap (λ t. t +ℚ (h zero (suc (suc n)) +ℚ sum_pairs (suc n) (λ i j. h (suc i) j))) (triangle_first n h)
    ∙ swap_middle _ _ _ _
  where
    swap_middle : (a b c d : Fraction) → a +ℚ b +ℚ (c +ℚ d) ≡ a +ℚ c +ℚ (b +ℚ d)
    swap_middle a b c d = simp ring

pub pair_le_sum : (s : ℕ) (h : ℕ → ℕ → Fraction) → h zero s ≤ℚ sum_pairs s h
unfolding sum_pairs
pair_le_sum zero h = le_refl _
pair_le_sum (suc s) h = le_plus _ _

pub triangle_le_square : (n m : ℕ) (h : ℕ → ℕ → Fraction) → n ≤ m
    → sum_to n (λ s. sum_pairs s h) ≤ℚ sum_to n (λ i. sum_to m (h i))
unfolding sum_to sum_pairs
triangle_le_square zero m h b = sum_to_grows zero m (h zero) b
triangle_le_square (suc n) m h b = subst₂ (λ s t. s ≤ℚ t) (sym (triangle_first n h))
    (sym (sum_to_first n (λ i. sum_to m (h i)))) (plus_le_both _ _ _ _ (sum_to_grows (suc n) m (h zero) b)
    (triangle_le_square n m (λ i j. h (suc i) j) (omega arith)))

pub square_le_triangle : (n m : ℕ) (h : ℕ → ℕ → Fraction)
    → sum_to n (λ i. sum_to m (h i)) ≤ℚ sum_to (n + m) (λ s. sum_pairs s h)
unfolding sum_to
square_le_triangle zero m h = rw (zero-add m) (sum_to_le m _ _ (λ s b. pair_le_sum s h))
square_le_triangle (suc n) m h = subst₂ (λ s t. s ≤ℚ t) (sym (sum_to_first n (λ i. sum_to m (h i))))
    (sym (ap (λ k. sum_to k (λ s. sum_pairs s h)) (suc-add n m) ∙ triangle_first (n + m) h))
    (plus_le_both _ _ _ _ (sum_to_grows m (suc (n + m)) (h zero) (omega arith))
    (square_le_triangle n m (λ i j. h (suc i) j)))

pub cauchy_low : (n : ℕ) (a b : ℕ → Fraction) → sum_to n (convolve a b) ≤ℚ sum_to n a *ℚ sum_to n b
cauchy_low n a b = rw (← sum_to_product n n a b) (triangle_le_square n n (λ i j. a i *ℚ b j) (omega arith))

pub cauchy_high : (n : ℕ) (a b : ℕ → Fraction) → sum_to n a *ℚ sum_to n b ≤ℚ sum_to (n + n) (convolve a b)
cauchy_high n a b = rw (← sum_to_product n n a b) (square_le_triangle n n (λ i j. a i *ℚ b j))

-- the total of two, each up to a number past which it has nothing
pub by_total : (value a b : ℕ → Fraction) (p q far : ℕ) → ((i : ℕ) → p < i → a i ≡ whole 0)
    → ((j : ℕ) → q < j → b j ≡ whole 0) → p + q ≤ far
    → sum_to p (λ s. a s *ℚ sum_to q (λ t. value (s + t) *ℚ b t)) ≡ sum_to far (λ x. value x *ℚ convolve a b x)
by_total value a b p q far pa pb h =
    let H : ℕ → ℕ → Fraction = λ i j. value (i + j) *ℚ (a i *ℚ b j) in
    let rows : sum_to p (λ s. a s *ℚ sum_to q (λ t. value (s + t) *ℚ b t)) ≡ sum_to p (λ i. sum_to q (H i)) =
    sum_to_same p _ _ (λ s c. sym (sum_to_times q (a s) (λ t. value (s + t) *ℚ b t))
    ∙ sum_to_same q _ _ (λ t d. times_left_comm (a s) (value (s + t)) (b t))) in
    let diagonals : sum_to far (λ x. value x *ℚ convolve a b x) ≡ sum_to far (λ x. sum_pairs x H) =
    sum_to_same far _ _ (λ x c. sym (sum_pairs_times x (value x) (λ i j. a i *ℚ b j))
    ∙ sum_pairs_same x _ _ (λ i j e. ap (λ t. value t *ℚ (a i *ℚ b j)) (sym e))) in
    let wide : sum_to far (λ i. sum_to far (H i)) ≡ sum_to p (λ i. sum_to q (H i)) =
    sum_to_longer p far (λ i. sum_to far (H i)) (omega arith)
    (λ i c. sum_to_zero far (H i) (λ j d. simp (pa i c, zero_times, times_zero)))
    ∙ sum_to_same p _ _ (λ i c. sum_to_longer q far (H i) (omega arith) (λ j d. simp (pb j d, times_zero))) in
    rows
    ∙ le_antisymm _ _
    (le_trans _ _ _ (square_le_triangle p q H) (sum_to_grows (p + q) far (λ s. sum_pairs s H) h))
    (subst (λ t. sum_to far (λ s. sum_pairs s H) ≤ℚ t) wide (triangle_le_square far far H (omega arith)))
    ∙ sym diagonals

-- a sum over all i + j up to a level that both stay below
pub sum_convolve : (f g : ℕ → Fraction) (m n k : ℕ) → ((i : ℕ) → m < i → f i ≡ whole 0)
    → ((j : ℕ) → n < j → g j ≡ whole 0) → m + n ≤ k → sum_to k (convolve f g) ≡ sum_to m f *ℚ sum_to n g
sum_convolve f g m n k pf pg h =
    sym (simp one_times at (by_total (λ x. whole 1) f g m n k pf pg h)) ∙ sum_to_times_right m (sum_to n g) f
