-- A compound sum taken n times is the compound sum of the n-th power of its count weights.
use Rattle.dl_model.proofs.Common.{◌≡◌, ℕ, suc, zero, ◌+◌, arith, sym, ap, ap₂, ◌∙◌, Fraction, ◌+ℚ◌, ◌*ℚ◌, ◌≤ℚ◌, whole, ◌^ℚ◌, sum_to, sum_pairs, Series, Rises, times, SameValue, SameCells, subst, convolve, at_zero, power, cell, compound, product, times_itself, refl, plus_le_both, times_le_both, le_refl, plus_zero, zero_times, one_times, times_one, times_assoc, sum_to_same, sum_pairs_same, sum_to_product, sum_pairs_sum_to, sum_pairs_times_right}
use Rattle.dl_model.proofs.ValueLaws.{triangle_le_square, square_le_triangle, power_plus, convolve_scaled, convolve_times, AreLevel, level_same, level_trans, level_both, cauchy_level, same_value, sum_rises, rises_times, sum_rises_to}

pub level_sum : (n : ℕ) (P P' : ℕ → ℕ → Series) → ((i j : ℕ) → Rises (P i j)) → ((i j : ℕ) → Rises (P' i j))
    → ((i j : ℕ) → AreLevel (P i j) (P' i j))
    → AreLevel (λ N. sum_pairs n (λ i j. P i j N)) (λ N. sum_pairs n (λ i j. P' i j N))
unfolding sum_pairs
level_sum zero P P' r r' u = u zero zero
level_sum (suc n) P P' r r' u =
    let later : (ℕ → ℕ → Series) → ℕ → ℕ → Series = λ P i j. P (suc i) j in
    level_both (λ x y. x +ℚ y) plus_le_both _ _ _ _ (r zero (suc n)) (r' zero (suc n))
    (sum_rises n (later P) (λ i j e. r (suc i) j)) (sum_rises n (later P') (λ i j e. r' (suc i) j)) (u zero (suc n))
    (level_sum n (later P) (later P') (λ i j. r (suc i) j) (λ i j. r' (suc i) j) (λ i j. u (suc i) j))

-- the product of two sums of rows, against the sum of their convolutions
module _ (P Q : ℕ → ℕ → Fraction) (y : ℕ) where
  abbrev crossed : ℕ → ℕ → Fraction
  crossed n m = convolve (P n) (Q m) y

  abbrev squares : Series
  squares N = sum_pairs y (λ i j. sum_to N (λ n. P n i) *ℚ sum_to N (λ m. Q m j))

  square : (N : ℕ) → squares N ≡ sum_to N (λ n. sum_to N (crossed n))
  square N =
      sum_pairs_same y _ _ (λ i j e. sym (sum_to_product N N (λ n. P n i) (λ m. Q m j)))
      ∙ sum_pairs_sum_to y N _ ∙ sum_to_same N _ _ (λ n e. sum_pairs_sum_to y N _)

  pub rows_level : AreLevel squares (λ N. sum_to N (λ s. sum_pairs s crossed))
  rows_level = (
    λ N. (
      N + N,
      subst (λ t. t ≤ℚ sum_to (N + N) (λ s. sum_pairs s crossed)) (sym (square N))
          (square_le_triangle N N crossed),
    ),
    λ N. (
      N,
      subst (λ t. sum_to N (λ s. sum_pairs s crossed) ≤ℚ t) (sym (square N))
          (triangle_le_square N N crossed (omega arith)),
    ),
  )

module _ (a b f : ℕ → Fraction) (y : ℕ) where
  both : (n m : ℕ) → convolve (λ i. a n *ℚ power f n i) (λ j. b m *ℚ power f m j) y
      ≡ a n *ℚ b m *ℚ power f (n + m) y
  both n m = convolve_scaled (a n) (power f n) (λ j. b m *ℚ power f m j) y
      ∙ ap (λ t. a n *ℚ t) (convolve_times (b m) (power f n) (power f m) y
      ∙ ap (λ g. b m *ℚ g y) (sym (power_plus f n m))) ∙ sym (times_assoc _ _ _)

  triangle : (N : ℕ) → cell (convolve a b) f y N
      ≡ sum_to N (λ s. sum_pairs s (crossed (λ n i. a n *ℚ power f n i) (λ m j. b m *ℚ power f m j) y))
  triangle N = sum_to_same N _ _ (λ s e. sym (sum_pairs_times_right s (power f s y) (λ n m. a n *ℚ b m))
      ∙ sum_pairs_same s _ _ (λ n m e'. ap (λ k. a n *ℚ b m *ℚ power f k y) (sym e') ∙ sym (both n m)))

  pub product_level : AreLevel ((product (compound a f) (compound b f)).cells y) (cell (convolve a b) f y)
  product_level = level_trans _ _ _ (rows_level (λ n i. a n *ℚ power f n i) (λ m j. b m *ℚ power f m j) y)
      (level_same _ _ (λ N. sym (triangle N)))

pub sum_to_at_zero : (N : ℕ) (X : ℕ → Fraction) → sum_to N (λ n. at_zero n *ℚ X n) ≡ X zero
unfolding sum_to at_zero
sum_to_at_zero zero X = one_times _
sum_to_at_zero (suc N) X = ap₂ (λ s t. s +ℚ t) (sum_to_at_zero N X) (zero_times _) ∙ plus_zero _

cell_rises : (w f : ℕ → Fraction) (y : ℕ) → Rises (cell w f y)
cell_rises w f y = sum_rises_to (λ n. w n *ℚ power f n y)

module _ (w f : ℕ → Fraction) where
  itself_rises : (n y : ℕ) → Rises ((times_itself (compound w f) n).cells y)
  unfolding power ◌^ℚ◌
  itself_rises zero y = λ N. le_refl _
  itself_rises (suc n) y = sum_rises y (λ i j. times (cell w f i) ((times_itself (compound w f) n).cells j))
      (λ i j e. rises_times _ _ (cell_rises w f i) (itself_rises n j))

  itself_level : (n y : ℕ) → AreLevel ((times_itself (compound w f) n).cells y) (cell (power w n) f y)
  unfolding power ◌^ℚ◌
  itself_level zero y = level_same _ _ (λ N. sym (sum_to_at_zero N (λ n. power f n y)))
  itself_level (suc n) y =
      level_trans _ ((product (compound w f) (compound (power w n) f)).cells y) _
      (level_sum y (λ i j. times (cell w f i) ((times_itself (compound w f) n).cells j))
      (λ i j. times (cell w f i) (cell (power w n) f j))
      (λ i j. rises_times _ _ (cell_rises w f i) (itself_rises n j))
      (λ i j. rises_times _ _ (cell_rises w f i) (cell_rises (power w n) f j))
      (λ i j. level_both (λ x y. x *ℚ y) times_le_both _ _ _ _ (cell_rises w f i) (cell_rises w f i) (itself_rises n j)
      (cell_rises (power w n) f j) (level_same _ _ (λ N. refl)) (itself_level n j)))
      (product_level w (power w n) f y)

  all_rises : (n : ℕ) → Rises ((times_itself (compound w f) n).all)
  unfolding power ◌^ℚ◌
  all_rises zero = λ N. le_refl _
  all_rises (suc n) = rises_times _ _ (sum_rises_to w) (all_rises n)

  all_level : (n : ℕ) → AreLevel ((times_itself (compound w f) n).all) (λ N. sum_to N (power w n))
  unfolding power ◌^ℚ◌
  all_level zero = level_same _ _
      (λ N. sym (sum_to_same N _ _ (λ n e. sym (times_one (at_zero n))) ∙ sum_to_at_zero N (λ n. whole 1)))
  all_level (suc n) = level_trans _ (times (λ N. sum_to N w)
      (λ N. sum_to N (power w n))) _ (level_both (λ x y. x *ℚ y) times_le_both _ _ _ _ (sum_rises_to w)
      (sum_rises_to w) (all_rises n) (sum_rises_to (power w n)) (level_same _ _ (λ N. refl)) (all_level n))
      ((cauchy_level w (power w n)).1, (cauchy_level w (power w n)).0)

  -- n times a compound sum, in every cell
  pub itself_value : (n y : ℕ) → SameValue ((times_itself (compound w f) n).cells y)
      ((times_itself (compound w f) n).all) (cell (power w n) f y) (λ N. sum_to N (power w n))
  itself_value n y = same_value _ _ _ _ (itself_level n y) (all_level n)

-- two counts added up, by what their weights are
pub count_sum : (a b v f : ℕ → Fraction) → convolve a b ≡ v
    → SameCells (product (compound a f) (compound b f)) (compound v f)
count_sum a b v f e y = subst (λ c. SameValue ((product (compound a f) (compound b f)).cells y)
    (times (λ N. sum_to N a) (λ N. sum_to N b)) (cell c f y) (λ N. sum_to N c)) e
    (same_value _ _ _ _ (product_level a b f y) ((cauchy_level a b).1, (cauchy_level a b).0))

-- n counts added up, by what their weights are
pub count_power : (w v f : ℕ → Fraction) (n : ℕ) → power w n ≡ v
    → SameCells (times_itself (compound w f) n) (compound v f)
count_power w v f n e y = subst (λ c. SameValue ((times_itself (compound w f) n).cells y)
    ((times_itself (compound w f) n).all) (cell c f y) (λ N. sum_to N c)) e (itself_value w f n y)
