-- Counts added up: exact counts and trials.
use Rattle.dl_model.proofs.Common.{◌≡◌, inl, inr, ℕ, suc, zero, ◌+◌, ◌-◌, ◌*◌, ◌^◌, ◌<◌, ◌≤◌, arith, refl, sym, ap, ap₂, ◌∙◌, mul-pos, pow-suc, fun_ext, one-le-pow, pow-zero, cases_lt, cases_eq, Fraction, ◌over◌, ◌+ℚ◌, ◌*ℚ◌, whole, choose, sum_to, sum_pairs, over_same, over_mul, one_pos, zero_times, zero_plus, plus_zero, one_times, sum_pairs_none, convolve, at_zero, power, fixed, binomial, IsSeverity, over_plus, subst}
use Rattle.dl_model.proofs.Picks.{on, off}

-- at most one claim
module _ (h : ℕ → Fraction) (few : (i : ℕ) → h (suc (suc i)) ≡ whole 0) (g : ℕ → Fraction) where
  pub none_or_one : (n : ℕ) → convolve h g (suc n) ≡ h zero *ℚ g (suc n) +ℚ h 1 *ℚ g n
  unfolding sum_pairs
  none_or_one zero = refl
  none_or_one (suc n) = simp (few, zero_times, sum_pairs_none n, plus_zero)

-- ---- exactly m claims

pub fixed_past : (m n : ℕ) → m < n → fixed m n ≡ whole 0
fixed_past m n h = off n m (whole 1) (λ e. omega (arith, e))

fixed_shift : (m n : ℕ) → fixed m n ≡ fixed (suc m) (suc n)
fixed_shift m n = elim (cases_eq n m) [
  | inl e ↦ on n m (whole 1) e ∙ sym (on (suc n) (suc m) (whole 1) (omega arith))
  | inr e ↦ off n m (whole 1) e ∙ sym (off (suc n) (suc m) (whole 1) (omega arith))
]

pub fixed_power : (m : ℕ) → power (fixed 1) m ≡ fixed m
unfolding power at_zero sum_pairs
fixed_power zero = fun_ext start
  where
    start : (n : ℕ) → at_zero n ≡ fixed zero n
    start zero = sym (on zero zero (whole 1) refl)
    start (suc n) = sym (off (suc n) zero (whole 1) (λ e. omega (arith, e)))
fixed_power (suc m) = ap (convolve (fixed 1)) (fixed_power m) ∙ fun_ext next
  where
    none : fixed 1 zero ≡ whole 0
    none = off zero 1 (whole 1) (λ e. omega (arith, e))

    next : (n : ℕ) → convolve (fixed 1) (fixed m) n ≡ fixed (suc m) n
    next zero = ap (λ t. t *ℚ fixed m zero) none ∙ zero_times _ ∙ sym (off zero (suc m) (whole 1) (λ e. omega (arith, e)))
    next (suc n) = none_or_one (fixed 1) (λ i. off (suc (suc i)) 1 (whole 1) (λ e. omega (arith, e))) (fixed m) n
        ∙ ap₂ (λ s t. s +ℚ t) (ap (λ t. t *ℚ fixed m (suc n)) none ∙ zero_times _)
        (ap (λ t. t *ℚ fixed m n) (on 1 1 (whole 1) refl) ∙ one_times _) ∙ zero_plus _ ∙ fixed_shift m n

-- ---- m trials

choose-above : (m k : ℕ) → m < k → choose m k ≡ 0
unfolding choose
choose-above m zero h = absurd (omega (arith, h))
choose-above zero (suc k) h = refl
choose-above (suc m) (suc k) h = omega (arith, choose-above m k (omega arith), choose-above m (suc k) (omega arith))

module _ (a b : ℕ) (pos : 0 < b) where
  -- the numerator: the ways to choose the claims, times those of each trial
  abbrev numerator : ℕ → ℕ → ℕ
  numerator m n = choose m n * a ^ n * (b - a) ^ (m - n)

  numerator_zero : (m : ℕ) → numerator (suc m) zero ≡ (b - a) * numerator m zero
  unfolding choose
  numerator_zero m =
      let q = b - a in
      let d : suc m - zero ≡ suc m = omega arith in
      let e : m - zero ≡ m = omega arith in
      rw (d, e, pow-suc q m) (omega arith)

  numerator_next : (m n : ℕ) → numerator (suc m) (suc n) ≡ (b - a) * numerator m (suc n) + a * numerator m n
  unfolding choose
  numerator_next m n =
      let q = b - a in
      let d : suc m - suc n ≡ m - n = omega arith in
      rw (d, pow-suc a n) (elim (cases_lt n m) [
        | inl l ↦
            let e : m - n ≡ suc (m - suc n) = omega arith in
            rw (e, pow-suc q (m - suc n)) (omega arith)
        | inr l ↦ rw (choose-above m (suc n) (omega arith)) (omega arith)
      ])

  below : (m : ℕ) → 0 < b ^ m
  below m = one-le-pow m b pos

  no_trial : (n : ℕ) → at_zero n ≡ binomial zero a b n
  unfolding at_zero choose
  no_trial zero =
      sym (over_same _ _ 1 1 (below zero) one_pos (rw (pow-zero a, pow-zero b) (omega (arith, pow-zero (b - a)))))
  no_trial (suc n) = sym (over_same _ _ 0 1 (below zero) one_pos (omega arith))

  power_of_one : (x : ℕ) → x ^ 1 ≡ x
  power_of_one x = pow-suc x zero ∙ ap (λ t. t * x) (pow-zero x) ∙ omega arith

  pub one_trial_none : binomial 1 a b zero ≡ (b - a) over b
  unfolding choose
  one_trial_none =
      let alone : choose 1 0 * a ^ 0 * (b - a) ^ (1 - 0) ≡ b - a =
      ap₂ (λ s t. 1 * s * t) (pow-zero a) (power_of_one (b - a)) ∙ omega arith in
      over_same _ _ _ _ (below 1) pos (ap₂ (λ s t. s * t) alone (sym (power_of_one b)))

  pub one_trial_one : binomial 1 a b 1 ≡ a over b
  unfolding choose
  one_trial_one =
      let alone : choose 1 1 * a ^ 1 * (b - a) ^ (1 - 1) ≡ a =
      ap₂ (λ s t. 1 * s * t) (power_of_one a) (pow-zero (b - a)) ∙ omega arith in
      over_same _ _ _ _ (below 1) pos (ap₂ (λ s t. s * t) alone (sym (power_of_one b)))

  one_trial_more : (i : ℕ) → binomial 1 a b (suc (suc i)) ≡ whole 0
  one_trial_more i = over_same _ _ 0 1 (below 1) one_pos (rw (choose-above 1 (suc (suc i)) (omega arith)) (omega arith))

  pub binomial_power : (m : ℕ) → power (binomial 1 a b) m ≡ binomial m a b
  unfolding power sum_pairs
  binomial_power zero = fun_ext no_trial
  binomial_power (suc m) = ap (convolve (binomial 1 a b)) (binomial_power m) ∙ fun_ext next
    where
      more : b ^ suc m ≡ b * b ^ m
      more = pow-suc b m ∙ omega arith

      next : (n : ℕ) → convolve (binomial 1 a b) (binomial m a b) n ≡ binomial (suc m) a b n
      next zero = ap (λ t. t *ℚ binomial m a b zero) one_trial_none
          ∙ over_mul _ _ _ _ pos (below m) ∙ ap₂ (λ s t. s over t) (sym (numerator_zero m)) (sym more)
      next (suc n) = none_or_one (binomial 1 a b) one_trial_more (binomial m a b) n
          ∙ ap₂ (λ s t. s +ℚ t) (ap (λ t. t *ℚ binomial m a b (suc n)) one_trial_none ∙ over_mul _ _ _ _ pos (below m))
          (ap (λ t. t *ℚ binomial m a b n) one_trial_one ∙ over_mul _ _ _ _ pos (below m)) ∙ over_plus _ _ (b * b ^ m)
          (mul-pos pos (below m)) ∙ ap₂ (λ s t. s over t) (sym (numerator_next m n)) (sym more)

  -- one trial is a severity of the amounts 0 and 1
  pub trial : a ≤ b → IsSeverity (binomial 1 a b) 1
  unfolding sum_to
  trial h = record {
    add_up = ap₂ (λ s t. s +ℚ t) one_trial_none one_trial_one ∙ over_plus (b - a) a b pos
        ∙ over_same _ _ 1 1 pos one_pos (omega arith);
    past = λ j far. subst (λ k. binomial 1 a b k ≡ whole 0) (omega arith) (one_trial_more (j - 2));
  }
