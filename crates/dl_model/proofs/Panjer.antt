-- Panjer's recursion for every count of the (a, b, 0) class.
use Rattle.dl_model.proofs.Common.{◌≡◌, ℕ, suc, zero, ◌+◌, ◌≤◌, arith, sym, ap, ap₂, ◌∙◌, zero-lt-suc, Fraction, ◌+ℚ◌, ◌*ℚ◌, ◌/ℚ◌, whole, sum_to, sum_pairs, at_zero, power, cell, poisson, gamma, ring, times_comm, plus_times, one_times, zero_plus, plus_zero, plus_cancel, times_zero, zero_times, times_one, whole_pos, whole_plus, whole_suc, times_cancel, div_times, sum_to_same, sum_to_first, sum_to_times, sum_pairs_same, sum_pairs_plus, sum_pairs_times, sum_pairs_sum_to, IsPanjer, sum_pairs_first, Recursion, from_before}
use Rattle.dl_model.proofs.TotalLaws.{power_tilt, no_power, cell_stays, poisson_zero, poisson_next, gamma_zero, gamma_next}

-- the part of cell s + 1 from the cells before it, times s + 1
pub before_in_whole : (a c : Fraction) (f r : ℕ → Fraction) (s : ℕ) → whole (suc s) *ℚ from_before a c f r s
    ≡ sum_pairs s (λ i k. (a *ℚ whole k +ℚ c *ℚ whole (suc i)) *ℚ f (suc i) *ℚ r k)
before_in_whole a c f r s =
    let S = whole (suc s) in
    sym (sum_pairs_times s S _) ∙ sum_pairs_same s _ _ (λ i k e.
    let F = a *ℚ whole k +ℚ c *ℚ whole (suc i) in
    outside S (F /ℚ S) (f (suc i)) (r k)
    ∙ ap (λ t. t *ℚ f (suc i) *ℚ r k) (div_times F S (whole_pos (suc s) (zero-lt-suc s))))
  where
    outside : (x y z w : Fraction) → x *ℚ (y *ℚ z *ℚ w) ≡ y *ℚ x *ℚ z *ℚ w
    outside x y z w = simp ring

module _ (f w : ℕ → Fraction) (a c : Fraction) (z : f zero ≡ whole 0) (P : IsPanjer a c w) where
  -- the factor of f at amount suc i beside cell k, times the number of the cell
  abbrev pub factor : ℕ → ℕ → Fraction
  factor i k = a *ℚ whole k +ℚ c *ℚ whole (suc i)

  without_first : (g v : ℕ → Fraction) → g zero ≡ whole 0 → (s : ℕ)
      → sum_pairs (suc s) (λ i j. g i *ℚ v j) ≡ sum_pairs s (λ i k. g (suc i) *ℚ v k)
  without_first g v e s = sum_pairs_first s (λ i j. g i *ℚ v j) ∙ simp (e, zero_times, zero_plus)

  one_term : (n s : ℕ) → whole (suc s) *ℚ (w (suc n) *ℚ power f (suc n) (suc s)) ≡ sum_pairs s
      (λ i k. factor i k *ℚ f (suc i) *ℚ (w n *ℚ power f n k))
  unfolding power
  one_term n s =
      let v = power f n in
      let S = whole (suc s) in
      let N = whole (suc n) in
      let p : Fraction = power f (suc n) (suc s) in
      let X : Fraction = sum_pairs s (λ i k. f (suc i) *ℚ v k) in
      let Y : Fraction = sum_pairs s (λ i k. whole (suc i) *ℚ f (suc i) *ℚ v k) in
      let Z : Fraction = sum_pairs s (λ i k. whole k *ℚ (f (suc i) *ℚ v k)) in
      let px : p ≡ X = without_first f v z s in
      let py : S *ℚ p ≡ N *ℚ Y = power_tilt f n (suc s)
      ∙ ap (λ t. N *ℚ t) (without_first (λ j. whole j *ℚ f j) v (zero_times _) s) in
      let both : Z +ℚ Y ≡ S *ℚ X =
      sym (sum_pairs_plus s _ _) ∙ sum_pairs_same s _ _ (λ i k e.
      let m : k + suc i ≡ suc s = omega (arith, e) in
      together (whole k) (whole (suc i)) (f (suc i)) (v k)
      ∙ ap (λ t. t *ℚ (f (suc i) *ℚ v k)) (sym (whole_plus k (suc i)) ∙ ap whole m)) ∙ sum_pairs_times s S _ in
      let rest : Z ≡ whole n *ℚ Y =
      plus_cancel Z (whole n *ℚ Y) Y (both ∙ ap (λ t. S *ℚ t) (sym px) ∙ py ∙ ap (λ t. t *ℚ Y) (whole_suc n)
      ∙ plus_times _ _ Y ∙ ap (λ t. whole n *ℚ Y +ℚ t) (one_times Y)) in
      times_cancel _ _ N (whole_pos (suc n) (zero-lt-suc n))
      ((simp ring)
      ∙ ap₂ (λ t u. t *ℚ u) (P.next n) py
      ∙ (simp ring)
      ∙ ap (λ t. (a *ℚ w n *ℚ t +ℚ c *ℚ w n *ℚ Y) *ℚ N) (sym rest)
      ∙ ap (λ t. t *ℚ N) (sym (
      sum_pairs_same s _ (λ i k. a *ℚ w n *ℚ (whole k *ℚ (f (suc i) *ℚ v k)) +ℚ c *ℚ w n *ℚ
      (whole (suc i) *ℚ f (suc i) *ℚ v k)) (λ i k e. (simp ring))
      ∙ sum_pairs_plus s _ _
      ∙ ap₂ (λ t u. t +ℚ u) (sum_pairs_times s (a *ℚ w n) _) (sum_pairs_times s (c *ℚ w n) _))))
    where
      together : (x y g h : Fraction) → x *ℚ (g *ℚ h) +ℚ y *ℚ g *ℚ h ≡ (x +ℚ y) *ℚ (g *ℚ h)
      together x y g h = simp ring

  pub cell_next : (s M : ℕ) → whole (suc s) *ℚ cell w f (suc s) (suc M) ≡ sum_pairs s
      (λ i k. factor i k *ℚ f (suc i) *ℚ cell w f k M)
  unfolding power at_zero
  cell_next s M = ap (λ t. whole (suc s) *ℚ t) (sum_to_first M (λ n. w n *ℚ power f n (suc s))
      ∙ simp (times_zero, zero_plus)) ∙ sym (sum_to_times M (whole (suc s))
      (λ n. w (suc n) *ℚ power f (suc n) (suc s))) ∙ sum_to_same M _ _ (λ n e. one_term n s)
      ∙ sym (sum_pairs_sum_to s M (λ i k n. factor i k *ℚ f (suc i) *ℚ (w n *ℚ power f n k)))
      ∙ sum_pairs_same s _ _ (λ i k e. sum_to_times M (factor i k *ℚ f (suc i)) (λ n. w n *ℚ power f n k))

  pub cell_zero : (N : ℕ) → cell w f zero N ≡ whole 1
  unfolding sum_to power at_zero
  cell_zero zero = times_one _ ∙ P.start
  cell_zero (suc N) = ap₂ (λ x y. x +ℚ y) (cell_zero N)
      (ap (λ t. w (suc N) *ℚ t) (no_power f z (suc N) zero (omega arith)) ∙ times_zero _) ∙ plus_zero _

  -- two numbers that are the same s + 1 times are the same
  over_next : (s : ℕ) (x y : Fraction) → whole (suc s) *ℚ x ≡ whole (suc s) *ℚ y → x ≡ y
  over_next s x y e =
      times_cancel x y (whole (suc s)) (whole_pos (suc s) (zero-lt-suc s)) (times_comm _ _ ∙ e ∙ times_comm _ _)

  pub recursion_next : (r : ℕ → Fraction) → Recursion a c f r → (s : ℕ)
      → whole (suc s) *ℚ r (suc s) ≡ sum_pairs s (λ i k. (a *ℚ whole k +ℚ c *ℚ whole (suc i)) *ℚ f (suc i) *ℚ r k)
  recursion_next r R s = ap (λ t. whole (suc s) *ℚ t) (R.next s) ∙ before_in_whole a c f r s

  -- a cell from the cells before it, one claim less
  pub cell_from_before : (s M : ℕ) → cell w f (suc s) (suc M) ≡ from_before a c f (λ k. cell w f k M) s
  cell_from_before s M = over_next s _ _ (cell_next s M ∙ sym (before_in_whole a c f (λ k. cell w f k M) s))

  -- the cells follow the recursion
  pub recursion_there : Recursion a c f (λ s. cell w f s s)
  recursion_there = record {
    start = cell_zero zero;
    next = λ s. over_next s _ _
        (cell_next s s
        ∙ sum_pairs_same s _ _ (λ i k e. ap (λ t. factor i k *ℚ f (suc i) *ℚ t) (cell_stays w f z k s (omega arith)))
        ∙ sym (before_in_whole a c f (λ s. cell w f s s) s));
  }

  pub up_to : (r : ℕ → Fraction) → Recursion a c f r → (n s N : ℕ) → s ≤ n → s ≤ N → r s ≡ cell w f s N
  up_to r R n zero N p q = R.start ∙ sym (cell_zero N)
  up_to r R zero (suc s) N p q = absurd (omega arith)
  up_to r R (suc n) (suc s) zero p q = absurd (omega arith)
  up_to r R (suc n) (suc s) (suc M) p q =
      over_next s _ _
      (recursion_next r R s
      ∙ sum_pairs_same s _ _ (λ i k e. ap (λ t. factor i k *ℚ f (suc i) *ℚ t)
      (up_to r R n k M (omega arith) (omega arith)))
      ∙ sym (cell_next s M))

-- Poisson: a = 0, c = v
pub poisson_class : (v : Fraction) → IsPanjer (whole 0) v (poisson v)
poisson_class v = record {
  start = poisson_zero v;
  next = λ n. times_comm _ _ ∙ poisson_next v n
      ∙ ap (λ t. t *ℚ poisson v n) (sym (ap (λ t. t +ℚ v) (zero_times _) ∙ zero_plus v));
}

-- gamma of shape r: a = x, c = r * x
pub gamma_class : (r x : Fraction) → IsPanjer x (r *ℚ x) (gamma r x)
gamma_class r x = record { start = gamma_zero r x; next = λ n. gamma_next r x n ∙ simp ring }
