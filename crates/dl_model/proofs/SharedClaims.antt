-- Sums over claims lists of what counts the total alone: one severity, mixed from those of the units, serves for all.
use Rattle.dl_model.proofs.Common.{◌≡◌, ℕ, suc, zero, ◌+◌, ◌*◌, ◌<◌, ◌≤◌, arith, refl, sym, ap, ap₂, subst, ◌∙◌, List, [], ◌∷◌, fun_ext, sum, sum_by-cons, Fraction, ◌*ℚ◌, ◌/ℚ◌, ◌≤ℚ◌, ◌<ℚ◌, whole, ◌^ℚ◌, sum_to, sum_over, sum_pairs, ring, le_antisymm, le_plus, zero_le, div_times, whole_pos, times_pos, plus_comm, times_comm, times_assoc, times_left_comm, times_zero, zero_times, one_times, times_cancel, one_pos, sum_to_same, sum_to_times, sum_to_none, sum_to_either, sum_pairs_same, sum_pairs_none, sum_pairs_times, sum_pairs_sum_to, at_zero, convolve, power, factorial, factorial_pos, divided_power, product_over, sum_over_claims, PoissonUnit, Claims, amounts, amounts_given_counts, AreSeverities, score, le_refl_n, IsSeverity}
use Rattle.dl_model.proofs.TotalLaws.{by_total, power_past, sum_to_at_zero, divided_whole, divided_plus, undivided, divided_none}

-- ---- powers of a scaled severity

pub scaled_power : (y : Fraction) (f : ℕ → Fraction) (n s : ℕ) → power (λ a. y *ℚ f a) n s ≡ y ^ℚ n *ℚ power f n s
unfolding power ◌^ℚ◌
scaled_power y f zero s = sym (one_times _)
scaled_power y f (suc n) s = sum_pairs_same s _ _ (λ i j e. ap (λ t. y *ℚ f i *ℚ t) (scaled_power y f n j) ∙ simp ring)
    ∙ sum_pairs_times s (y *ℚ y ^ℚ n) (λ i j. f i *ℚ power f n j)

pub divided_past : (f : ℕ → Fraction) (m : ℕ) → ((j : ℕ) → m < j → f j ≡ whole 0) → (n s : ℕ) → n * m < s
    → divided_power f n s ≡ whole 0
divided_past f m past n s h = divided_none f n s (power_past f m past n s h)

-- ---- sums over claims lists

pub claims_same : (us : List PoissonUnit) (n : ℕ) (f g : List Claims → Fraction) → ((claims : List Claims) → f claims
    ≡ g claims) → sum_over_claims us n f ≡ sum_over_claims us n g
claims_same us n f g h = ap (sum_over_claims us n) (fun_ext h)

pub claims_times : (us : List PoissonUnit) (n : ℕ) (k : Fraction) (f : List Claims → Fraction)
    → sum_over_claims us n (λ claims. k *ℚ f claims) ≡ k *ℚ sum_over_claims us n f
unfolding sum_over_claims
claims_times [] zero k f = refl
claims_times [] (suc n) k f = sym (times_zero k)
claims_times (u ∷ us) n k f = simp (claims_times us, sum_to_times, sum_pairs_times)

module _ (y : PoissonUnit → Fraction) where
  -- the severity of a unit times its number
  abbrev pub scaled_severity : PoissonUnit → ℕ → Fraction
  scaled_severity u a = y u *ℚ u.severity a

  -- a unit's part of a claims list
  abbrev pub part : Claims → Fraction
  part c = divided_power (scaled_severity c.unit) c.count c.amount

  abbrev factorials : List Claims → Fraction
  factorials claims = product_over claims (λ c. whole (factorial c.count))

  abbrev numbers : List Claims → Fraction
  numbers claims = product_over claims (λ c. y c.unit ^ℚ c.count)

  factorials_pos : (claims : List Claims) → whole 0 <ℚ factorials claims
  unfolding product_over
  factorials_pos [] = whole_pos 1 one_pos
  factorials_pos (c ∷ claims) = times_pos _ _ (whole_pos (factorial c.count) (factorial_pos c.count))
      (factorials_pos claims)

  parts_product : (claims : List Claims) → product_over claims part *ℚ factorials claims
      ≡ amounts_given_counts claims *ℚ numbers claims
  unfolding product_over
  parts_product [] = refl
  parts_product (c ∷ claims) =
      middle (part c) (product_over claims part) (whole (factorial c.count)) (factorials claims)
      ∙ ap₂ (λ s t. s *ℚ t)
      (divided_whole (scaled_severity c.unit) c.count c.amount
      ∙ scaled_power (y c.unit) c.unit.severity c.count c.amount ∙ times_comm _ _)
      (parts_product claims)
      ∙ middle (power c.unit.severity c.count c.amount) (y c.unit ^ℚ c.count) (amounts_given_counts claims)
      (numbers claims)
    where
      middle : (a b c d : Fraction) → a *ℚ b *ℚ (c *ℚ d) ≡ a *ℚ c *ℚ (b *ℚ d)
      middle a b c d = simp ring

  -- the four factors of a claims list, its score first
  pub four_factors : (score K : Fraction) (claims : List Claims)
      → score *ℚ amounts_given_counts claims *ℚ (K /ℚ factorials claims) *ℚ numbers claims
      ≡ K *ℚ (score *ℚ product_over claims part)
  four_factors score K claims =
      let F = factorials claims in
      times_cancel _ _ F (factorials_pos claims)
      ((simp ring)
      ∙ ap₂ (λ s t. s *ℚ score *ℚ t) (div_times K F (factorials_pos claims)) (sym (parts_product claims))
      ∙ simp ring)

  -- the sum over claims lists of a value of the amounts
  abbrev pub weighed : List PoissonUnit → ℕ → (List ℕ → Fraction) → Fraction
  weighed us n value = sum_over_claims us n (λ claims. value (amounts claims) *ℚ product_over claims part)

  pub weighed_same : (us : List PoissonUnit) (n : ℕ) (f g : List ℕ → Fraction) → ((ys : List ℕ) → f ys ≡ g ys)
      → weighed us n f ≡ weighed us n g
  weighed_same us n f g h = ap (weighed us n) (fun_ext h)

  pub weighed_times : (us : List PoissonUnit) (n : ℕ) (k : Fraction) (f : List ℕ → Fraction)
      → weighed us n (λ ys. k *ℚ f ys) ≡ k *ℚ weighed us n f
  weighed_times us n k f = claims_same us n _ _ (λ claims. times_assoc _ _ _) ∙ claims_times us n k _

  -- the first unit apart
  pub weighed_more : (u : PoissonUnit) (us : List PoissonUnit) (n : ℕ) (value : List ℕ → Fraction)
      → weighed (u ∷ us) n value ≡ sum_pairs n (λ j k. sum_to (j * u.most)
      (λ s. divided_power (scaled_severity u) j s *ℚ weighed us k (λ ys. value (s ∷ ys))))
  unfolding sum_over_claims product_over
  weighed_more u us n value =
      sum_pairs_same n _ _ (λ j k e. sum_to_same (j * u.most) _ _ (λ s b.
      claims_same us k _ _ (λ claims. times_left_comm _ _ _) ∙ claims_times us k _ _))

  -- the severities of all units together, each times its number
  abbrev pub mixed : List PoissonUnit → ℕ → Fraction
  mixed us a = sum_over us (λ u. scaled_severity u a)

  pub first_none : (u : PoissonUnit) (us : List PoissonUnit) (a : ℕ) → mixed (u ∷ us) a ≡ whole 0
      → scaled_severity u a ≡ whole 0
  unfolding sum_over
  first_none u us a e = le_antisymm _ _ (rw e at (le_plus (scaled_severity u a) (mixed us a))) (zero_le _)

  pub others_none : (u : PoissonUnit) (us : List PoissonUnit) (a : ℕ) → mixed (u ∷ us) a ≡ whole 0
      → mixed us a ≡ whole 0
  unfolding sum_over
  others_none u us a e = le_antisymm _ _
      (subst (λ t. mixed us a ≤ℚ t) (plus_comm _ _ ∙ e) (le_plus (mixed us a) (scaled_severity u a))) (zero_le _)

  -- the first unit apart: its amounts, each by a value of it, and what the others come to, none past some number
  pub by_first : (u : PoissonUnit) (us : List PoissonUnit) (V : List ℕ → Fraction) (M n far : ℕ) (k value : ℕ → Fraction)
      (b : ℕ → ℕ → Fraction) → IsSeverity u.severity u.most → ((a : ℕ) → M < a → mixed (u ∷ us) a ≡ whole 0)
      → ((l t : ℕ) → l * M < t → b l t ≡ whole 0) → n * M ≤ far
      → ((l s : ℕ) → weighed us l (λ ys. V (s ∷ ys)) ≡ k s *ℚ sum_to (l * M) (λ t. value (s + t) *ℚ b l t))
      → weighed (u ∷ us) n V ≡ sum_to far (λ x. value x *ℚ sum_pairs n
      (λ j l. convolve (λ s. k s *ℚ divided_power (scaled_severity u) j s) (b l) x))
  by_first u us V M n far k value b is past others h each =
      let f = scaled_severity u in
      let a : ℕ → ℕ → Fraction = λ j s. k s *ℚ divided_power f j s in
      let none : (m : ℕ) → ((c : ℕ) → m < c → f c ≡ whole 0) → (j s : ℕ) → j * m < s → a j s ≡ whole 0 =
      λ m p j s c. simp (divided_past f m p j s c, times_zero) in
      let all_none = none M (λ c d. first_none u us c (past c d)) in
      weighed_more u us n V
      ∙ sum_pairs_same n _ (λ j l. sum_to far (λ x. value x *ℚ convolve (a j) (b l) x)) (λ j l e.
      sum_to_same (j * u.most) _ (λ s. a j s *ℚ sum_to (l * M) (λ t. value (s + t) *ℚ b l t))
      (λ s c. rw (each l s) (simp ring))
      ∙ sum_to_either (j * u.most) (j * M) _
      (λ s c. simp (none u.most (λ c d. simp (is.past c d, times_zero)) j s c, zero_times))
      (λ s c. simp (all_none j s c, zero_times))
      ∙ by_total value (a j) (b l) (j * M) (l * M) far (all_none j) (others l)
      (omega (arith, subst (λ t. t * M ≤ far) (sym e) h)))
      ∙ sum_pairs_sum_to n far (λ j l x. value x *ℚ convolve (a j) (b l) x)
      ∙ sum_to_same far _ _ (λ x c. sum_pairs_times n (value x) (λ j l. convolve (a j) (b l) x))

  pub weighed_by_total : (us : List PoissonUnit) → AreSeverities us → (M : ℕ)
      → ((a : ℕ) → M < a → mixed us a ≡ whole 0) → (n far : ℕ) → n * M ≤ far → (value : ℕ → Fraction)
      → weighed us n (λ ys. value (sum ys)) ≡ sum_to far (λ x. value x *ℚ divided_power (mixed us) n x)
  unfolding sum_over_claims product_over sum_over power
  weighed_by_total [] h M past zero far b value =
      times_comm _ _ ∙ one_times _ ∙ sym (sum_to_same far _ (λ x. at_zero x *ℚ value x)
      (λ x c. ap (λ t. value x *ℚ t) (undivided (mixed []) x) ∙ times_comm _ _) ∙ sum_to_at_zero far value)
  weighed_by_total [] h M past (suc n) far b value =
      sym (sum_to_same far _ (λ x. whole 0) (λ x c. ap (λ t. value x *ℚ t)
      (divided_none (mixed []) (suc n) x (sum_pairs_same x _ (λ i j. whole 0) (λ i j e. zero_times _)
      ∙ sum_pairs_none x)) ∙ times_zero _) ∙ sum_to_none far)
  weighed_by_total (u ∷ us) h M past n far b value =
      let f = scaled_severity u in
      let g = mixed us in
      let g_past : (a : ℕ) → M < a → g a ≡ whole 0 = λ a c. others_none u us a (past a c) in
      by_first u us (λ ys. value (sum ys)) M n far (λ s. whole 1) value (divided_power g) h.0 past
      (divided_past g M g_past) b (λ l s. weighed_same us l _ (λ ys. value (s + sum ys))
      (λ ys. ap value (sum_by-cons (λ (x : ℕ). x) s ys))
      ∙ weighed_by_total us h.1 M g_past l (l * M) (le_refl_n (l * M)) (λ t. value (s + t)) ∙ sym (one_times _))
      ∙ sum_to_same far _ _ (λ x c. ap (λ t. value x *ℚ t) (simp one_times (sym (divided_plus f g n x))))
