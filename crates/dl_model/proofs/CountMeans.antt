-- The expected numbers of claims.
use Rattle.dl_model.proofs.Common.{◌≡◌, ℕ, suc, zero, ◌*◌, ◌<◌, ◌≤◌, nat_eq, refl, sym, ap, ap₂, subst, ◌∙◌, Fraction, ◌over◌, ◌+ℚ◌, ◌*ℚ◌, ◌/ℚ◌, ◌≤ℚ◌, whole, sum_to, ring, zero_times, times_zero, zero_plus, times_one, one_times, le_refl, le_of_eq, zero_le, sum_to_same, sum_to_first, sum_to_times, Series, Holds, IsSeverity, power, fixed, binomial, poisson, gamma_of, AtMost, AtLeast, Rises, ◌<ℚ◌, subst₂, div_times, div_pos, plus_comm, times_comm, times_assoc, times_cancel, times_le_both, times_le_cancel, plus_le_both, sum_to_plus, le_refl_n}
use Rattle.dl_model.proofs.TotalLaws.{severity_within_one, pick, times_where, power_severity, times_self, IsUnder, AreLevel, level_same, same_value, sum_rises_to, fixed_past, binomial_power, trial, one_trial_one, holds_reached, bounded_by_all, fixed_sum, next_of, gamma_next, pos_plus, div_plus, at_most_rest}
use Rattle.dl_model.proofs.Means.{power_mean}

-- each number times its weight, summed
abbrev counted : (ℕ → Fraction) → Series
counted w N = sum_to N (λ n. whole n *ℚ w n)

-- the declared mean of a number of claims is v
abbrev pub HasMean : (ℕ → Fraction) → Fraction → Type 0
HasMean w v = Holds (λ N. sum_to N (λ n. whole n *ℚ w n)) (λ N. sum_to N w) v v

-- a count of finitely many claims
pub finite_mean : (w : ℕ → Fraction) (far : ℕ) → IsSeverity w far → HasMean w (sum_to far (λ n. whole n *ℚ w n))
finite_mean w far h = holds_reached (counted w)
    (λ N. sum_to N w) (sum_to far (λ n. whole n *ℚ w n)) _ _ far refl (bounded_by_all far (λ n. whole n *ℚ w n)
    (λ n b. simp (h.past n b, times_zero))) h.add_up (severity_within_one w far h) (le_refl _) (le_refl _)

counted_none : (w : ℕ → Fraction) → counted w zero ≡ whole 0
unfolding sum_to
counted_none w = zero_times _

-- the sum up to N + 1, by the weights before
counted_next : (w g : ℕ → Fraction) → ((n : ℕ) → whole (suc n) *ℚ w (suc n) ≡ g n) → (N : ℕ)
    → counted w (suc N) ≡ sum_to N g
counted_next w g next N = sum_to_first N (λ n. whole n *ℚ w n)
    ∙ ap₂ (λ s t. s +ℚ t) (zero_times (w zero)) (sum_to_same N _ _ (λ n e. next n)) ∙ zero_plus _

-- sums that begin with 0 and go on as Q
pub shifted : (M Q : Series) → M zero ≡ whole 0 → ((N : ℕ) → M (suc N) ≡ Q N) → AreLevel M Q
shifted M Q none next = (under, λ N. (suc N, le_of_eq _ _ (sym (next N))))
  where
    under : IsUnder M Q
    under zero = (zero, subst (λ t. t ≤ℚ Q zero) (sym none) (zero_le _))
    under (suc N) = (N, le_of_eq _ _ (next N))

-- the Poisson count
pub poisson_mean : (v : Fraction) → HasMean (poisson v) v
poisson_mean v =
    let R : Series = λ N. sum_to N (poisson v) in
    let same = same_value (counted (poisson v)) R (λ N. v *ℚ R N) R
    (shifted (counted (poisson v)) (λ N. v *ℚ R N) (counted_none (poisson v)) (λ N.
    counted_next (poisson v) (λ n. v *ℚ poisson v n) (next_of v) N ∙ sum_to_times N v (poisson v)))
    (level_same R R (λ N. refl)) in
    ((same.0 v).1 (times_self v R).0, (same.1 v).1 (times_self v R).1)

-- the gamma count of shape r and mean v: n + 1 times the weight of n + 1 claims is x times n, and r / (r + v) times v,
-- times the weight of n
pub gamma_mean : (r v : Fraction) → whole 0 <ℚ r → HasMean (gamma_of r v) v
gamma_mean r v rp = (at_least, at_most)
  where
    W : Fraction
    W = r +ℚ v

    x : Fraction
    x = v /ℚ W

    d : Fraction
    d = r /ℚ W

    w : ℕ → Fraction
    w = gamma_of r v

    Wp : whole 0 <ℚ W
    Wp = pos_plus r v rp

    one : x +ℚ d ≡ whole 1
    one = div_plus v r W Wp (plus_comm v r)

    parts : r *ℚ x ≡ v *ℚ d
    parts = times_cancel _ _ W Wp (times_assoc _ _ _ ∙ ap (λ t. r *ℚ t) (div_times v W Wp) ∙ times_comm r v
        ∙ sym (times_assoc _ _ _ ∙ ap (λ t. v *ℚ t) (div_times r W Wp)))

    S : Series
    S N = sum_to N w

    M : Series
    M = counted w

    spread : (n : ℕ) → whole (suc n) *ℚ w (suc n) ≡ x *ℚ (whole n *ℚ w n) +ℚ d *ℚ v *ℚ w n
    spread n = gamma_next r x n ∙ apart r (whole n) x (w n)
        ∙ ap (λ t. x *ℚ (whole n *ℚ w n) +ℚ t *ℚ w n) (parts ∙ times_comm v d)
      where
        apart : (r n x w : Fraction) → (r +ℚ n) *ℚ (x *ℚ w) ≡ x *ℚ (n *ℚ w) +ℚ r *ℚ x *ℚ w
        apart r n x w = simp ring

    next : (N : ℕ) → x *ℚ M N +ℚ d *ℚ v *ℚ S N ≡ M (suc N)
    next N = sym (counted_next w _ spread N ∙ sum_to_plus N (λ n. x *ℚ (whole n *ℚ w n)) (λ n. d *ℚ v *ℚ w n)
        ∙ ap₂ (λ s t. s +ℚ t) (sum_to_times N x (λ n. whole n *ℚ w n)) (sum_to_times N (d *ℚ v) w))

    M_rises : Rises M
    M_rises = sum_rises_to (λ n. whole n *ℚ w n)

    at_most : AtMost M S v
    at_most zero u b = subst (λ t. t ≤ℚ v *ℚ u) (sym (counted_none w)) (zero_le _)
    at_most (suc N) u b = subst₂ (λ s t. s ≤ℚ t) (next N) (together x d v u ∙ ap (λ t. t *ℚ (v *ℚ u)) one ∙ one_times _)
        (plus_le_both _ _ _ _ (times_le_both _ _ _ _ (le_refl x) (at_most N u b))
        (times_le_both _ _ _ _ (le_refl (d *ℚ v)) (b N)))
      where
        together : (x d v u : Fraction) → x *ℚ (v *ℚ u) +ℚ d *ℚ v *ℚ u ≡ (x +ℚ d) *ℚ (v *ℚ u)
        together x d v u = simp ring

    rest : AtMost (λ N. d *ℚ v *ℚ S N) (λ N. M (suc N)) d
    rest = at_most_rest (λ N. x *ℚ M N) (λ N. d *ℚ v *ℚ S N) (λ N. M (suc N)) x d
        (λ N. times_le_both _ _ _ _ (le_refl x) (M_rises N))
        (λ N. times_le_both _ _ _ _ (le_refl (d *ℚ v)) (sum_rises_to w N)) next one
        (λ N u b. b (suc N))

    at_least : AtLeast M S v
    at_least N u b = times_le_cancel _ _ d (div_pos r W rp Wp)
        (subst₂ (λ s t. s ≤ℚ t) (times_assoc _ _ _ ∙ times_comm _ _) (times_comm d u) (rest N u (λ n. b (suc n))))

-- ---- exact counts and trials

pub fixed_mean : (m : ℕ) → HasMean (fixed m) (whole m)
fixed_mean m =
    let h : IsSeverity (fixed m) m = record { add_up = fixed_sum m m (le_refl_n m); past = λ n b. fixed_past m n b } in
    let value : sum_to m (λ n. whole n *ℚ fixed m n) ≡ whole m =
    sum_to_same m _ _ (λ n b. times_where (nat_eq n m) (whole n) (whole 1)) ∙ pick m m (λ n. whole n *ℚ whole 1)
    (le_refl_n m) ∙ times_one _ in
    subst (HasMean (fixed m)) value (finite_mean (fixed m) m h)

pub binomial_mean : (m a b : ℕ) → 0 < b → a ≤ b → HasMean (binomial m a b) (whole m *ℚ a over b)
unfolding sum_to
binomial_mean m a b pos h =
    let one = binomial 1 a b in
    let t = trial a b pos h in
    let each : sum_to 1 (λ j. whole j *ℚ one j) ≡ a over b =
    ap₂ (λ s t. s +ℚ t) (zero_times _) (one_times _ ∙ one_trial_one a b pos) ∙ zero_plus _ in
    let value : sum_to (m * 1) (λ s. whole s *ℚ power one m s) ≡ whole m *ℚ a over b =
    power_mean one 1 t m (m * 1) (le_refl_n _) ∙ ap (λ t. whole m *ℚ t) each in
    subst (λ w. HasMean w (whole m *ℚ a over b)) (binomial_power a b pos m) (subst (HasMean (power one m)) value
    (finite_mean (power one m) (m * 1) (power_severity one 1 t m)))
