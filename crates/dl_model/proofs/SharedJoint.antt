-- One unit beside the total under a common factor: one claim of the unit apart, the others with one more in the shape.
use Rattle.dl_model.proofs.Common.{◌≡◌, ℕ, suc, zero, ◌+◌, ◌*◌, ◌<◌, ◌≤◌, arith, refl, sym, ap, ap₂, subst, ◌∙◌, List, [], ◌∷◌, nat_eq, fun_ext, get_or, sum, sum_by-cons, Fraction, ◌+ℚ◌, ◌*ℚ◌, ◌<ℚ◌, whole, sum_to, sum_over, sum_pairs, ring, times_comm, times_left_comm, times_zero, zero_times, zero_plus, plus_zero, plus_assoc, plus_comm, whole_suc, product_below, sum_to_same, sum_to_first, sum_to_times, sum_pairs_same, sum_pairs_none, sum_pairs_sum_to, convolve, power, cell, gamma, Outcome, Joint, score, where_true, sum_to_zero, times_assoc, times_one, IsSeverity, sum_pairs_first, sum_pairs_last, divided_power, PoissonUnit, expected_claims, common_sums, pooled_severity, AreSeverities, IsUnit, le_refl_n, one_times}
use Rattle.dl_model.proofs.TotalLaws.{convolve_past, tilt_at_zero, pick, where_factor, convolve_assoc, convolve_times, convolve_scaled, convolve_first, sum_convolve, power_past, power_severity, divided_plus, divided_tilt, undivided, convolve_pairs}
use Rattle.dl_model.proofs.SharedClaims.{mixed, scaled_severity, weighed, weighed_same, weighed_times, weighed_by_total, first_none, others_none, divided_past, by_first}
use Rattle.dl_model.proofs.Pooled.{chance, any_chance, orders, level_sum, pooled_is_severity, mixed_pooled, gamma_divided}

-- ---- one claim apart

-- of n claims one, tilted by t, and the n - 1 others
claim_apart : (t h : ℕ → Fraction) → ℕ → ℕ → Fraction
claim_apart t h zero x = whole 0
claim_apart t h (suc m) x = convolve t (divided_power h m) x

abbrev tilt : (ℕ → Fraction) → ℕ → Fraction
tilt f a = whole a *ℚ f a

convolve_none : (f g : ℕ → Fraction) (s : ℕ) → ((i : ℕ) → f i ≡ whole 0) → convolve f g s ≡ whole 0
convolve_none f g s h = simp (h, zero_times, sum_pairs_none)

convolve_no_other : (f g : ℕ → Fraction) (s : ℕ) → ((j : ℕ) → g j ≡ whole 0) → convolve f g s ≡ whole 0
convolve_no_other f g s h = simp (h, times_zero, sum_pairs_none)

apart_past : (t h : ℕ → Fraction) (M : ℕ) → ((a : ℕ) → M < a → t a ≡ whole 0) → ((a : ℕ) → M < a → h a ≡ whole 0)
    → (n z : ℕ) → n * M < z → claim_apart t h n z ≡ whole 0
unfolding claim_apart
apart_past t h M pt ph zero z b = refl
apart_past t h M pt ph (suc m) z b =
    convolve_past t (divided_power h m) M (m * M) z pt (divided_past h M ph m) (omega (arith, b))

module _ (f g : ℕ → Fraction) where
  abbrev both : ℕ → Fraction
  both a = f a +ℚ g a

  no_tilt : (s : ℕ) → whole s *ℚ divided_power f zero s ≡ whole 0
  no_tilt s = rw (undivided f s) (tilt_at_zero s)

  -- the claim is of the first part
  first_apart : (n x : ℕ) → sum_pairs n (λ j k. convolve (λ s. whole s *ℚ divided_power f j s) (divided_power g k) x)
      ≡ claim_apart (tilt f) both n x
  unfolding sum_pairs claim_apart
  first_apart zero x = convolve_none (λ s. whole s *ℚ divided_power f zero s) (divided_power g zero) x no_tilt
  first_apart (suc m) x =
      sum_pairs_first m (λ j k. convolve (λ s. whole s *ℚ divided_power f j s) (divided_power g k) x)
      ∙ ap₂ (λ a b. a +ℚ b) (convolve_none (λ s. whole s *ℚ divided_power f zero s) (divided_power g (suc m)) x no_tilt)
      (sum_pairs_same m _ (λ j k. convolve (tilt f) (convolve (divided_power f j) (divided_power g k)) x)
      (λ j k e. ap (λ t. convolve t (divided_power g k) x) (fun_ext (divided_tilt f j))
      ∙ ap (λ t. t x) (convolve_assoc (tilt f) (divided_power f j) (divided_power g k)))
      ∙ sym (convolve_pairs (tilt f) m x (λ j k. convolve (divided_power f j) (divided_power g k)))
      ∙ ap (λ t. convolve (tilt f) t x) (sym (fun_ext (divided_plus f g m)))) ∙ zero_plus _

  -- the claim is of the other part
  others_apart : (t : ℕ → Fraction) (n x : ℕ) → sum_pairs n (λ j k. convolve (divided_power f j) (claim_apart t g k) x)
      ≡ claim_apart t both n x
  unfolding sum_pairs claim_apart
  others_apart t zero x = convolve_no_other (divided_power f zero) (claim_apart t g zero) x (λ j. refl)
  others_apart t (suc m) x = sum_pairs_last m (λ j k. convolve (divided_power f j) (claim_apart t g k) x)
      ∙ ap₂ (λ a b. a +ℚ b) (sum_pairs_same m _ (λ j k. convolve t (convolve (divided_power f j) (divided_power g k)) x)
      (λ j k e. convolve_first t (divided_power f j) (divided_power g k) x)
      ∙ sym (convolve_pairs t m x (λ j k. convolve (divided_power f j) (divided_power g k)))
      ∙ ap (λ h. convolve t h x) (sym (fun_ext (divided_plus f g m))))
      (convolve_no_other (divided_power f (suc m)) (claim_apart t g zero) x (λ j. refl)) ∙ plus_zero _

module _ (y : PoissonUnit → Fraction) (u : PoissonUnit) where
  unit_past : (us : List PoissonUnit) (i : ℕ) → IsUnit us i u → (a : ℕ) → mixed y us a ≡ whole 0
      → scaled_severity y u a ≡ whole 0
  unit_past [] i e a z = absurd e
  unit_past (w ∷ us) zero e a z = subst (λ t. scaled_severity y t a ≡ whole 0) e (first_none y w us a z)
  unit_past (w ∷ us) (suc i) e a z = unit_past us i e a (others_none y w us a z)

  -- the outcome of unit i beside a value of the total
  weighed_joint : (us : List PoissonUnit) (i : ℕ) → IsUnit us i u → AreSeverities us → (M : ℕ)
      → ((a : ℕ) → M < a → mixed y us a ≡ whole 0) → (n far : ℕ) → n * M ≤ far → (value : ℕ → Fraction)
      → weighed y us n (λ ys. value (sum ys) *ℚ whole (get_or ys i 0))
      ≡ sum_to far (λ x. value x *ℚ claim_apart (tilt (scaled_severity y u)) (mixed y us) n x)
  unfolding sum_over
  weighed_joint [] i e h M past n far b value = absurd e
  weighed_joint (w ∷ us) zero e h M past n far b value =
      let f = scaled_severity y w in
      let g = mixed y us in
      let g_past : (a : ℕ) → M < a → g a ≡ whole 0 = λ a c. others_none y w us a (past a c) in
      by_first y w us (λ ys. value (sum ys) *ℚ whole (get_or ys zero 0)) M n far whole value (divided_power g) h.0 past
      (divided_past g M g_past) b (λ l s. weighed_same y us l _ (λ ys. whole s *ℚ value (s + sum ys))
      (λ ys. times_comm _ _ ∙ ap (λ t. whole s *ℚ value t) (sum_by-cons (λ (x : ℕ). x) s ys))
      ∙ weighed_times y us l (whole s) (λ ys. value (s + sum ys)) ∙ ap (λ t. whole s *ℚ t)
      (weighed_by_total y us h.1 M g_past l (l * M) (le_refl_n (l * M)) (λ t. value (s + t))))
      ∙ sum_to_same far _ _ (λ x c. ap (λ t. value x *ℚ t) (first_apart f g n x
      ∙ ap (λ v. claim_apart (tilt (scaled_severity y v)) (mixed y (w ∷ us)) n x) e))
  weighed_joint (w ∷ us) (suc i) e h M past n far b value =
      let f = scaled_severity y w in
      let g = mixed y us in
      let t = tilt (scaled_severity y u) in
      let g_past : (a : ℕ) → M < a → g a ≡ whole 0 = λ a c. others_none y w us a (past a c) in
      let t_past : (a : ℕ) → M < a → t a ≡ whole 0 =
      λ a c. ap (λ z. whole a *ℚ z) (unit_past us i e a (g_past a c)) ∙ times_zero _ in
      by_first y w us (λ ys. value (sum ys) *ℚ whole (get_or ys (suc i) 0)) M n far (λ s. whole 1) value
      (claim_apart t g) h.0 past (apart_past t g M t_past g_past) b
      (λ l s. weighed_same y us l _ (λ ys. value (s + sum ys) *ℚ whole (get_or ys i 0))
      (λ ys. ap (λ z. value z *ℚ whole (get_or ys i 0)) (sum_by-cons (λ (x : ℕ). x) s ys))
      ∙ weighed_joint us i e h.1 M g_past l (l * M) (le_refl_n (l * M)) (λ z. value (s + z)) ∙ sym (one_times _))
      ∙ sum_to_same far _ _ (λ x c. ap (λ z. value x *ℚ z) (simp one_times (others_apart f g t n x)))

-- ---- the joint sums

orders_next : (r : Fraction) (m : ℕ) → orders r (suc m) ≡ r *ℚ orders (r +ℚ whole 1) m
unfolding product_below
orders_next r zero = one_times _ ∙ plus_zero r ∙ sym (times_one r)
orders_next r (suc m) =
    let more : r +ℚ whole (suc m) ≡ r +ℚ whole 1 +ℚ whole m =
    ap (λ t. r +ℚ t) (whole_suc m ∙ plus_comm _ _) ∙ sym (plus_assoc r _ _) in
    ap₂ (λ s t. s *ℚ t) (orders_next r m) more ∙ times_assoc _ _ _

module _ (r : Fraction) (us : List PoissonUnit) (some : whole 0 <ℚ expected_claims us) (h : AreSeverities us) (M : ℕ)
    (past : (a : ℕ) → M < a → pooled_severity us a ≡ whole 0) (i : ℕ) (u : PoissonUnit) (at : IsUnit us i u) where
  abbrev y : PoissonUnit → Fraction
  y = chance r us

  abbrev c : Fraction
  c = any_chance r us

  -- the amounts of one claim of the unit, tilted
  abbrev t : ℕ → Fraction
  t = tilt u.severity

  mixed_past : (a : ℕ) → M < a → mixed y us a ≡ whole 0
  mixed_past a d = mixed_pooled r us some a ∙ ap (λ z. c *ℚ z) (past a d) ∙ times_zero _

  abbrev apart : ℕ → ℕ → Fraction
  apart n x = claim_apart (tilt (scaled_severity y u)) (mixed y us) n x

  level_joint : (n x : ℕ) → weighed y us n (score (Joint i x)) ≡ apart n x
  level_joint n x = weighed_same y us n _ _ (λ ys. where_factor (nat_eq (sum ys) x) (whole (get_or ys i 0)))
      ∙ weighed_joint y u us i at h M mixed_past n (n * M + x) (omega arith) (λ s. where_true (nat_eq s x) (whole 1))
      ∙ sum_to_same (n * M + x) _ _ (λ s d. sym (where_factor (nat_eq s x) (apart n s)))
      ∙ pick (n * M + x) x (apart n) (omega arith)

  -- n + 1 claims of shape r by n claims of shape r + 1
  apart_next : (m x : ℕ) → orders r (suc m) *ℚ apart (suc m) x
      ≡ r *ℚ y u *ℚ convolve t (λ k. gamma (r +ℚ whole 1) c m *ℚ power (pooled_severity us) m k) x
  unfolding claim_apart
  apart_next m x =
      let d = divided_power (mixed y us) m in
      let n = orders (r +ℚ whole 1) m in
      ap₂ (λ a b. a *ℚ b) (orders_next r m)
      (ap (λ f. convolve f d x) (fun_ext (λ a. times_left_comm (whole a) (y u) (u.severity a)))
      ∙ convolve_scaled (y u) t d x)
      ∙ (simp ring)
      ∙ ap (λ z. r *ℚ y u *ℚ z) (sym (convolve_times n t d x)
      ∙ ap (λ f. convolve t f x) (fun_ext (λ k. ap (λ f. n *ℚ divided_power f m k)
      (fun_ext (mixed_pooled r us some)) ∙ gamma_divided (r +ℚ whole 1) c (pooled_severity us) m k)))

  abbrev joint_term : ℕ → ℕ → Fraction
  joint_term x n = orders r n *ℚ apart n x

  joint_sums : (x N : ℕ) → common_sums r us (Joint i x) N ≡ sum_to N (joint_term x)
  joint_sums x N = sum_to_same N _ _ (λ n d. level_sum r us (Joint i x) n
      ∙ ap (λ z. orders r n *ℚ z) (level_joint n x))

  joint_first : (x : ℕ) → joint_term x zero ≡ whole 0
  unfolding claim_apart
  joint_first x = times_zero _

  pub joint_none : (x : ℕ) → common_sums r us (Joint i x) zero ≡ whole 0
  unfolding sum_to
  joint_none x = joint_sums x zero ∙ joint_first x

  pub joint_next : (x N : ℕ) → common_sums r us (Joint i x) (suc N)
      ≡ r *ℚ y u *ℚ sum_pairs x
      (λ a k. whole a *ℚ u.severity a *ℚ cell (gamma (r +ℚ whole 1) c) (pooled_severity us) k N)
  joint_next x N =
      let g : ℕ → ℕ → Fraction = λ m k. gamma (r +ℚ whole 1) c m *ℚ power (pooled_severity us) m k in
      joint_sums x (suc N)
      ∙ sum_to_first N (joint_term x) ∙ ap (λ z. z +ℚ sum_to N (λ m. joint_term x (suc m))) (joint_first x)
      ∙ zero_plus _
      ∙ sum_to_same N _ _ (λ m d. apart_next m x)
      ∙ sum_to_times N (r *ℚ y u) (λ m. convolve t (g m) x)
      ∙ ap (λ z. r *ℚ y u *ℚ z) (sym (sum_pairs_sum_to x N (λ a k m. t a *ℚ g m k))
      ∙ sum_pairs_same x _ _ (λ a k e. sum_to_times N (t a) (λ m. g m k)))

  -- ---- the outcome of the unit, whatever the total is

  severity_all : IsSeverity (pooled_severity us) M
  severity_all = pooled_is_severity us h some M past

  level_outcome : (n : ℕ) → weighed y us n (score (Outcome i)) ≡ sum_to (n * M) (apart n)
  level_outcome n = weighed_same y us n _ (λ ys. whole 1 *ℚ whole (get_or ys i 0)) (λ ys. sym (one_times _))
      ∙ weighed_joint y u us i at h M mixed_past n (n * M) (le_refl_n (n * M)) (λ s. whole 1)
      ∙ sum_to_same (n * M) _ _ (λ x d. one_times _)

  -- the m other claims come to something
  others_all : (m : ℕ) → sum_to (m * M) (λ k. gamma (r +ℚ whole 1) c m *ℚ power (pooled_severity us) m k)
      ≡ gamma (r +ℚ whole 1) c m
  others_all m =
      sum_to_times (m * M) (gamma (r +ℚ whole 1) c m) (power (pooled_severity us) m)
      ∙ ap (λ z. gamma (r +ℚ whole 1) c m *ℚ z) (power_severity (pooled_severity us) M severity_all m).add_up
      ∙ times_one _

  -- the claim that is apart, where it can be of the unit
  unit_amounts : ℕ → Fraction
  unit_amounts a = y u *ℚ t a

  amounts_past : (a : ℕ) → M < a → unit_amounts a ≡ whole 0
  unfolding unit_amounts
  amounts_past a d = times_left_comm (y u) (whole a) (u.severity a)
      ∙ ap (λ z. whole a *ℚ z) (unit_past y u us i at a (mixed_past a d)) ∙ times_zero _

  outcome_apart : (m : ℕ) → orders r (suc m) *ℚ sum_to (suc m * M) (apart (suc m))
      ≡ r *ℚ y u *ℚ sum_to M t *ℚ gamma (r +ℚ whole 1) c m
  unfolding unit_amounts
  outcome_apart m =
      let far = suc m * M in
      let g : ℕ → Fraction = λ k. gamma (r +ℚ whole 1) c m *ℚ power (pooled_severity us) m k in
      let g_past : (k : ℕ) → m * M < k → g k ≡ whole 0 = λ k d.
      ap (λ z. gamma (r +ℚ whole 1) c m *ℚ z) (power_past (pooled_severity us) M severity_all.past m k d)
      ∙ times_zero _ in
      sym (sum_to_times far (orders r (suc m)) (apart (suc m)))
      ∙ sum_to_same far _ (λ x. r *ℚ convolve unit_amounts g x) (λ x d. apart_next m x ∙ times_assoc r (y u) _
      ∙ ap (λ z. r *ℚ z) (sym (convolve_scaled (y u) t g x)))
      ∙ sum_to_times far r (convolve unit_amounts g)
      ∙ ap (λ z. r *ℚ z) (sum_convolve unit_amounts g M (m * M) far amounts_past g_past (omega arith)
      ∙ ap₂ (λ a b. a *ℚ b) (sum_to_times M (y u) t) (others_all m)) ∙ simp ring

  outcome_term : ℕ → Fraction
  outcome_term n = orders r n *ℚ sum_to (n * M) (apart n)

  outcome_sums : (N : ℕ) → common_sums r us (Outcome i) N ≡ sum_to N outcome_term
  unfolding outcome_term
  outcome_sums N = sum_to_same N _ _ (λ n d. level_sum r us (Outcome i) n
      ∙ ap (λ z. orders r n *ℚ z) (level_outcome n))

  outcome_first : outcome_term zero ≡ whole 0
  unfolding outcome_term claim_apart
  outcome_first = ap (λ z. orders r zero *ℚ z) (sum_to_zero (zero * M) _ (λ x d. refl)) ∙ times_zero _

  pub outcome_none : common_sums r us (Outcome i) zero ≡ whole 0
  unfolding sum_to
  outcome_none = outcome_sums zero ∙ outcome_first

  pub outcome_next : (N : ℕ) → common_sums r us (Outcome i) (suc N)
      ≡ r *ℚ y u *ℚ (sum_to M t *ℚ sum_to N (gamma (r +ℚ whole 1) c))
  unfolding outcome_term
  outcome_next N =
      outcome_sums (suc N) ∙ sum_to_first N outcome_term
      ∙ ap (λ z. z +ℚ sum_to N (λ m. outcome_term (suc m))) outcome_first ∙ zero_plus _
      ∙ sum_to_same N _ _ (λ m d. outcome_apart m)
      ∙ sum_to_times N (r *ℚ y u *ℚ sum_to M t) (gamma (r +ℚ whole 1) c) ∙ times_assoc _ _ _
