-- A start that passes encloses the part of its unit.
use Rattle.dl_cert.proofs.Common.{ℕ, zero, suc, ◌≡◌, ◌⊎◌, ◌<◌, ◌≤◌, ◌^◌, inl, inr, refl, sym, subst, arith, cases_eq, eq-eqb, ne_eqb, Fraction, whole, ◌+ℚ◌, ◌*ℚ◌, ◌/ℚ◌, ◌≤ℚ◌, ◌over◌, sum_to, le_trans, Freq, Fixed, Table, Bernoulli, Binomial, Poisson, Gamma, Sev, probability_of, expected_count, IsCountOfPlan, num_le_den, halvings, halvings_least, fixed, binomial, poisson, gamma_of, compound, Encloses, AtMost, AtLeast, fixed_sum, positive, given_part, within_one, exp_low, exp_high, one, floor_of, ceiling_of, low_start, high_start, sum_plain, sum_by_amount, above_zero, part_of, parts_of, fixed_past, trial, poisson_class, low_encloses, high_encloses, geometric_start, geometric_class, sums_by_number, sums_by_rate, sums_are}
use Rattle.dl_cert.proofs.Starts.{from_floor, from_ceiling, finite_start, recursion_start}
use Rattle.dl_cert.proofs.Targets.{above_within}

-- cell 0 of a Poisson share holds the probability of no claim
exp_low_holds : (u : Fraction) → u ≤ℚ 1 over 2
    → AtLeast (λ N. whole 1) (λ N. sum_to N (poisson u)) (exp_low 56 u over one)
exp_low_holds u half N w bound =
    le_trans _ _ _ (subst (λ t. exp_low 56 u over one *ℚ t ≤ℚ whole 1) (sym (sums_are u N)) (low_encloses u 56 half N))
    (bound zero)

exp_high_holds : (u : Fraction) → AtMost (λ N. whole 1) (λ N. sum_to N (poisson u)) (exp_high 56 u over one)
exp_high_holds u N w bound =
    high_encloses u 56 w (λ M. subst (λ t. t ≤ℚ w) (sums_are u M) (bound M))

module _ (sev : Sev) (v : Fraction) (K : ℕ) (some : 0 < K) (lo hi : ℕ → ℕ) where
  one_trial : (q : Fraction) → q ≤ℚ whole 1
      → ((y : ℕ) → y < K → lo y ≤ low_start (Bernoulli q) sev v lo y)
      → ((y : ℕ) → y < K → (high_start (Bernoulli q) sev v hi y ≤ hi y) ⊎ (one ≤ hi y))
      → Encloses one K lo hi (compound (binomial 1 q.num q.den) (probability_of sev))
  one_trial q within low high =
      let weights = trial q.num q.den q.positive (num_le_den q within) in
      finite_start one (omega arith) (binomial 1 q.num q.den) (probability_of sev) K lo hi (within_one sev)
      weights.add_up weights.past low high

  pub start_encloses : (freq : Freq) → IsCountOfPlan freq → v ≡ expected_count freq *ℚ positive sev
      → 1 ≤ parts_of freq v
      → ((y : ℕ) → y < K → lo y ≤ low_start freq sev v lo y)
      → ((y : ℕ) → y < K → (high_start freq sev v hi y ≤ hi y) ⊎ (one ≤ hi y))
      → Encloses one K lo hi (part_of freq sev v)
  start_encloses (Fixed m) h is counted low high =
      finite_start one (omega arith) (fixed 1) (probability_of sev) K lo hi (within_one sev)
      (fixed_sum 1 1 (omega arith)) (λ n b. fixed_past 1 n b) low high
  start_encloses (Table counts total) h is counted low high = absurd (omega (arith, counted))
  start_encloses (Bernoulli q) h is counted low high = one_trial q h.within low high
  start_encloses (Binomial m q) h is counted low high = one_trial q h.1.within low high
  start_encloses (Poisson mean) h is counted low high = elim (cases_eq v.num 0) [
    | inl none ↦ absurd (omega (arith, (rw (eq-eqb v.num 0 none) at counted)))
    | inr above ↦
        let u = v /ℚ whole (2 ^ halvings v) in
        let g = above_zero sev in
        rw (ne_eqb v.num 0 above)
        (recursion_start one (omega arith) (whole 0) u g (λ s. u /ℚ whole (suc s)) (sum_by_amount g)
        (sums_by_number u g) (poisson u) K (exp_low 56 u) (exp_high 56 u) lo hi (given_part sev).no_zero (poisson_class u)
        (above_within sev v mean is above) low high refl some (exp_low_holds u (halvings_least v).enough)
        (exp_high_holds u))
  ]
  start_encloses (Gamma shape mean) h is counted low high = elim (cases_eq v.num 0) [
    | inl none ↦ absurd (omega (arith, (rw (eq-eqb v.num 0 none) at counted)))
    | inr above ↦
        let beta = v /ℚ shape in
        let x = beta /ℚ (whole 1 +ℚ beta) in
        let start = whole 1 /ℚ (whole 1 +ℚ beta) in
        let l : ℕ = floor_of (whole one *ℚ start) in
        let u : ℕ = ceiling_of (whole one *ℚ start) in
        let holds = geometric_start beta (l over one) (u over one)
        (from_floor one (omega arith) l start (omega arith)) (from_ceiling one (omega arith) u start (omega arith)) in
        let g = above_zero sev in
        rw (ne_eqb v.num 0 above)
        (recursion_start one (omega arith) x x g (λ s. x) (sum_plain g)
        (sums_by_rate x g) (gamma_of (whole 1) beta) K l u lo hi (given_part sev).no_zero (geometric_class beta)
        (above_within sev v mean is above) low high refl some holds.0 holds.1)
  ]
