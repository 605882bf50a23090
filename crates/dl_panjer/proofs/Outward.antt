-- The two roundings of a Poisson and of a geometric grid are outward.
use Rattle.dl_panjer.proofs.Common.{◌≡◌, ◌⊎◌, inl, inr, ℕ, suc, ◌*◌, ◌/◌, ◌^◌, ◌<◌, ◌≤◌, Bool, true, false, List, length, arith, refl, sym, ap, ◌∙◌, zero-lt-suc, cases_lt, div_ceil, Fraction, ◌over◌, ◌+ℚ◌, ◌*ℚ◌, ◌/ℚ◌, ◌≤ℚ◌, whole, IsFloor, ring, zero_times, le_refl, le_trans, whole_pos, times_cancel, div_times, times_le_both, floor_div, ceiling_div, sum_pairs_same, sum_pairs_times, from_before, Iv, low_at, high_at, Item, weight_at, coefficient, next_sum, FollowsOutward, FollowsRounded, min-eq_right, times_assoc, times_comm, mul_comm, zero_plus, IsCeilingWithin, times_right_comm, ◌+◌, whole_plus, before_in_whole, over_times, sum_pairs_over, sum_pairs}

-- a factor of a quotient that was rounded first
module _ (T C : ℕ) (c : Fraction) (pos : 0 < T) where
  floor_part : (n : ℕ) → IsFloor (c *ℚ whole (C / T)) n → whole n ≤ℚ c *ℚ C over T
  floor_part n h = le_trans _ _ _ h.below (times_le_both _ _ _ _ (le_refl c) (floor_div C T pos).below)

  ceiling_part : (S n : ℕ) → IsCeilingWithin S (c *ℚ whole (div_ceil C T)) n → (c *ℚ C over T ≤ℚ whole n) ⊎ (S ≤ n)
  ceiling_part S n h = elim (cases_lt S h.0) [
    | inl far ↦ inr (omega (arith, h.2))
    | inr near ↦ inl (rw (h.2, min-eq_right near)
        (le_trans _ _ _ (times_le_both _ _ _ _ (le_refl c) (ceiling_div C T pos).above) h.1.above))
  ]

-- rounded twice, over the whole weight and times a factor, is outward
pub outward : {B : ℕ} (b : Bool) (factor : ℕ → Fraction) (items : List Item) (T : ℕ) (grid : List (Iv B))
    (x y : Fraction)
    → 0 < T
    → ((g : ℕ → ℕ) (s : ℕ) → from_before x y (λ j. weight_at items j over T) (λ k. whole (g k)) s
    ≡ factor s *ℚ next_sum (coefficient b items) g s over T)
    → FollowsRounded b factor items T grid
    → FollowsOutward (2 ^ B) (length grid) x y (λ j. weight_at items j over T) (low_at grid) (high_at grid)
outward {B} b factor items T grid x y pos same F = record {
  low = λ s inside.
      rw (same (low_at grid) s)
      (floor_part T (next_sum (coefficient b items) (low_at grid) s) (factor s) pos _ (F.low s inside));
  high = λ s inside.
      rw (same (high_at grid) s)
      (ceiling_part T (next_sum (coefficient b items) (high_at grid) s) (factor s) pos (2 ^ B) _ (F.high s inside));
}

-- ---- the sums of the recursion, over any severity

-- where a is 0
pub sums_by_number : (v : Fraction) (f : ℕ → Fraction) (g : ℕ → ℕ) (s : ℕ) → from_before (whole 0) v f (λ k. whole (g k)) s
    ≡ v /ℚ whole (suc s) *ℚ sum_pairs s (λ i k. whole (suc i) *ℚ f (suc i) *ℚ whole (g k))
sums_by_number v f g s =
    let S = whole (suc s) in
    let Sp = whole_pos (suc s) (zero-lt-suc s) in
    times_cancel _ _ S Sp (times_comm _ _ ∙ before_in_whole (whole 0) v f (λ k. whole (g k)) s
    ∙ sum_pairs_same s _ _ (λ i k e. ap (λ t. t *ℚ f (suc i) *ℚ whole (g k))
    (ap (λ t. t +ℚ v *ℚ whole (suc i)) (zero_times _) ∙ zero_plus _)
    ∙ turn v (whole (suc i)) (f (suc i)) (whole (g k)))
    ∙ sum_pairs_times s v (λ i k. whole (suc i) *ℚ f (suc i) *ℚ whole (g k))
    ∙ sym (times_right_comm _ _ S
    ∙ ap (λ t. t *ℚ sum_pairs s (λ i k. whole (suc i) *ℚ f (suc i) *ℚ whole (g k))) (div_times v S Sp)))
  where
    turn : (a b c d : Fraction) → a *ℚ b *ℚ c *ℚ d ≡ a *ℚ (b *ℚ c *ℚ d)
    turn a b c d = simp ring

-- where a and c are the same
pub sums_by_rate : (x : Fraction) (f : ℕ → Fraction) (g : ℕ → ℕ) (s : ℕ)
    → from_before x x f (λ k. whole (g k)) s ≡ x *ℚ sum_pairs s (λ i k. f (suc i) *ℚ whole (g k))
sums_by_rate x f g s =
    let S = whole (suc s) in
    times_cancel _ _ S (whole_pos (suc s) (zero-lt-suc s))
    (times_comm _ _ ∙ before_in_whole x x f (λ k. whole (g k)) s
    ∙ sum_pairs_same s _ (λ i k. x *ℚ S *ℚ (f (suc i) *ℚ whole (g k))) (λ i k e.
    let m : k + suc i ≡ suc s = omega (arith, e) in
    together x (whole k) (whole (suc i)) (f (suc i)) (whole (g k))
    ∙ ap (λ t. x *ℚ t *ℚ (f (suc i) *ℚ whole (g k))) (sym (whole_plus k (suc i)) ∙ ap whole m))
    ∙ sum_pairs_times s (x *ℚ S) (λ i k. f (suc i) *ℚ whole (g k)) ∙ times_right_comm x S _)
  where
    together : (x k j f g : Fraction) → (x *ℚ k +ℚ x *ℚ j) *ℚ f *ℚ g ≡ x *ℚ (k +ℚ j) *ℚ (f *ℚ g)
    together x k j f g = simp ring

-- ---- over the weights of items

module _ (items : List Item) (T : ℕ) (pos : 0 < T) (f : ℕ → Fraction) (is : (x : ℕ) → weight_at items x over T ≡ f x) where
  by_weight : (i k : ℕ) → f (suc i) *ℚ whole k ≡ (weight_at items (suc i) * k) over T
  by_weight i k =
      ap (λ t. t *ℚ whole k) (sym (is (suc i))) ∙ times_comm _ _ ∙ over_times k _ T pos ∙ ap (λ n. n over T) (mul_comm k _)

  pub sum_of_weights : (g : ℕ → ℕ) (s : ℕ)
      → sum_pairs s (λ i k. f (suc i) *ℚ whole (g k)) ≡ next_sum (coefficient false items) g s over T
  sum_of_weights g s =
      sum_pairs_same s _ _ (λ i k e. by_weight i (g k)) ∙ sum_pairs_over s T (λ i k. coefficient false items i * g k) pos

  pub sum_of_amounts : (g : ℕ → ℕ) (s : ℕ) → sum_pairs s (λ i k. whole (suc i) *ℚ f (suc i) *ℚ whole (g k))
      ≡ next_sum (coefficient true items) g s over T
  sum_of_amounts g s =
      sum_pairs_same s _ (λ i k. (coefficient true items i * g k) over T) (λ i k e.
      times_assoc _ _ _ ∙ ap (λ t. whole (suc i) *ℚ t) (by_weight i (g k)) ∙ over_times (suc i) _ T pos
      ∙ ap (λ n. n over T) (omega arith)) ∙ sum_pairs_over s T (λ i k. coefficient true items i * g k) pos

module _ (items : List Item) (T : ℕ) (v : Fraction) (T_pos : 0 < T) where
  abbrev chance : ℕ → Fraction
  chance j = weight_at items j over T

  pub poisson_outward : {B : ℕ} (grid : List (Iv B)) → FollowsRounded true (λ s. v /ℚ whole (suc s)) items T grid
      → FollowsOutward (2 ^ B) (length grid) (whole 0) v chance (low_at grid) (high_at grid)
  poisson_outward grid = outward true (λ s. v /ℚ whole (suc s)) items T grid (whole 0) v T_pos (λ g s.
      sums_by_number v chance g s ∙ ap (λ t. v /ℚ whole (suc s) *ℚ t) (sum_of_amounts items T T_pos chance (λ x. refl) g s))

  pub geometric_outward : {B : ℕ} (grid : List (Iv B)) → FollowsRounded false (λ s. v /ℚ (whole 1 +ℚ v)) items T grid
      → FollowsOutward (2 ^ B) (length grid) (v /ℚ (whole 1 +ℚ v)) (v /ℚ (whole 1 +ℚ v)) chance
      (low_at grid) (high_at grid)
  geometric_outward grid =
      let x = v /ℚ (whole 1 +ℚ v) in
      outward false (λ s. x) items T grid x x T_pos (λ g s. sums_by_rate x chance g s
      ∙ ap (λ t. x *ℚ t) (sum_of_weights items T T_pos chance (λ y. refl) g s))
