-- The probability of cell 0 of a geometric count and of a Poisson count of a small mean, from whole numbers.
use Rattle.dl_start.proofs.Common.{◌≡◌, ℕ, suc, zero, ◌+◌, ◌*◌, ◌<◌, ◌≤◌, arith, ap, ◌∙◌, mul-pos, mul-le-mul_right, zero-lt-suc, Fraction, ◌over◌, ◌+ℚ◌, ◌*ℚ◌, ◌≤ℚ◌, ◌<ℚ◌, whole, sum_to, poisson, gamma, over_le, over_add, over_mul, over_same, one_pos, one_times, times_comm, le_refl, le_trans, times_le_times, times_le_cancel, whole_pos, whole_plus, whole_times, over_times_whole, times_le_both, whole_le, Holds, IsBound, over_lt, plus_le_both, plus_times, times_assoc, times_plus, halving_bound, times_inward, times_outward, times_right_comm, poisson_next, geometric_low, geometric_least}

-- ---- geometric

pub geometric_holds : (n r l h T : ℕ) → 0 < r → 0 < T → l * (n + r) ≤ r * T → r * T ≤ h * (n + r)
    → Holds (λ N. whole 1) (λ N. sum_to N (gamma (whole 1) (n over (n + r)))) (l over T) (h over T)
geometric_holds n r l h T rp Tp p q =
    let x = n over (n + r) in
    let d = r over (n + r) in
    let L = (n + r) over r in
    let ap' : 0 < n + r = omega (arith, rp) in
    let one : x +ℚ d ≡ whole 1 = over_add n (n + r) r (n + r) ap' ap'
    ∙ over_same _ _ 1 1 (mul-pos ap' ap') one_pos (omega arith) in
    let Ld : L *ℚ d ≡ whole 1 = over_mul (n + r) r r (n + r) rp ap'
    ∙ over_same _ _ 1 1 (mul-pos rp ap') one_pos (omega arith) in
    let dp : whole 0 <ℚ d = over_lt 0 1 r (n + r) one_pos ap' (omega (arith, rp)) in
    let low : l over T ≤ℚ d = over_le l T r (n + r) Tp ap' p in
    let high : d ≤ℚ h over T = over_le r (n + r) h T ap' Tp q in (
      (λ N u b. le_trans _ _ _ (times_le_times _ _ (sum_to N (gamma (whole 1) x)) low)
          (le_trans _ _ _ (geometric_low x d one N) (b zero))),
      (λ N u b. rw (times_comm d L, Ld) at
          (times_le_both d (h over T) L u high ((geometric_least x d one L dp Ld).1 u b))),
    )

-- ---- Poisson

small_halves : (v : Fraction) → v +ℚ v ≤ℚ whole 1 → (n : ℕ) → poisson v (suc n) +ℚ poisson v (suc n) ≤ℚ poisson v n
small_halves v h n =
    let S = whole (suc n) in
    let twice : v +ℚ v ≤ℚ S = le_trans _ _ _ h (whole_le 1 (suc n) (omega arith)) in
    times_le_cancel _ _ S (whole_pos (suc n) (zero-lt-suc n))
    (rw (plus_times _ _ S, poisson_next v n, ← plus_times v v (poisson v n), times_comm (poisson v n) S)
    (times_le_times _ _ (poisson v n) twice))

pub half_over : (num den : ℕ) → 0 < den → num + num ≤ den → num over den +ℚ num over den ≤ℚ whole 1
half_over num den d h =
    rw (over_add num den num den d d) (over_le _ _ 1 1 (mul-pos d d) one_pos (omega (arith, mul-le-mul_right den h)))

module _ (num den : ℕ) (den_pos : 0 < den) where
  v : Fraction
  v = num over den

  next_term : (C : Fraction) (n : ℕ)
      → C *ℚ poisson (num over den) (suc n) *ℚ whole (den * suc n) ≡ C *ℚ poisson (num over den) n *ℚ whole num
  next_term C n =
      let p : Fraction = poisson (num over den) n in
      ap (λ t. C *ℚ poisson (num over den) (suc n) *ℚ t) (whole_times den (suc n))
      ∙ times_inward C (poisson (num over den) (suc n)) (whole den) (whole (suc n))
      ∙ ap (λ t. C *ℚ t *ℚ whole den) (poisson_next (num over den) n)
      ∙ times_outward C (num over den) p (whole den)
      ∙ ap (λ t. C *ℚ p *ℚ t) (over_times_whole num den den_pos)

  step_pos : (n : ℕ) → whole 0 <ℚ whole (den * suc n)
  step_pos n = whole_pos (den * suc n) (mul-pos den_pos (zero-lt-suc n))

  pub low_term : (C : Fraction) (n t s : ℕ) → s * (den * suc n) ≤ t * num → whole t ≤ℚ C *ℚ poisson (num over den) n
      → whole s ≤ℚ C *ℚ poisson (num over den) (suc n)
  low_term C n t s p h =
      times_le_cancel _ _ (whole (den * suc n)) (step_pos n)
      (rw (← whole_times s (den * suc n), next_term C n) (le_trans _ _ _ (whole_le _ _ p)
      (rw (whole_times t num) (times_le_times _ _ (whole num) h))))

  pub high_term : (C : Fraction) (n t s : ℕ) → t * num ≤ s * (den * suc n) → C *ℚ poisson (num over den) n ≤ℚ whole t
      → C *ℚ poisson (num over den) (suc n) ≤ℚ whole s
  high_term C n t s p h =
      times_le_cancel _ _ (whole (den * suc n)) (step_pos n)
      (rw (next_term C n, ← whole_times s (den * suc n)) (le_trans _ _ _
      (rw (whole_times t num) (times_le_times _ _ (whole num) h)) (whole_le _ _ p)))

-- x / T and y / T stand round 1 over the sum of the weights, from rounded sums up to K and the rounded last term
pub poisson_holds : (v : Fraction) (K T a b t x y : ℕ) → v +ℚ v ≤ℚ whole 1 → 0 < T
    → whole a ≤ℚ whole T *ℚ sum_to K (poisson v) → whole T *ℚ sum_to K (poisson v) ≤ℚ whole b
    → whole T *ℚ poisson v K ≤ℚ whole t
    → x * (b + t) ≤ T * T → T * T ≤ y * a
    → Holds (λ N. whole 1) (λ N. sum_to N (poisson v)) (x over T) (y over T)
poisson_holds v K T a b t x y half Tp low high last p q =
    let W = poisson v in
    let Tp' : whole 0 <ℚ whole T = whole_pos T Tp in
    let H = whole (b + t) in
    let bound : IsBound (λ N. sum_to N W) (sum_to K W +ℚ W K) = halving_bound W K (λ n h. small_halves v half n) in
    let top : whole T *ℚ (sum_to K W +ℚ W K) ≤ℚ H =
    rw (times_plus (whole T) (sum_to K W) (W K), whole_plus b t) (plus_le_both _ _ _ _ high last) in (
      (λ N u one_le. le_trans _ _ _ (times_le_cancel (x over T *ℚ sum_to N W) (whole 1) (whole T) Tp'
          (rw (times_right_comm (x over T) (sum_to N W) (whole T), over_times_whole x T Tp, one_times (whole T))
          (times_le_cancel (whole x *ℚ sum_to N W) (whole T) (whole T) Tp'
          (rw (times_assoc, times_comm (sum_to N W) (whole T), ← whole_times T T)
          (le_trans _ (whole x *ℚ H) _ (times_le_both (whole x) (whole x) _ _ (le_refl _)
          (le_trans _ _ _ (times_le_both (whole T) (whole T) _ _ (le_refl _) (bound N)) top))
          (rw (← whole_times x (b + t)) (whole_le _ _ p))))))) (one_le zero)),
      (λ N u b'. times_le_cancel (whole 1) (y over T *ℚ u) (whole T) Tp'
          (rw (one_times (whole T), times_right_comm (y over T) u (whole T), over_times_whole y T Tp)
          (times_le_cancel (whole T) (whole y *ℚ u) (whole T) Tp'
          (rw (← whole_times T T, times_assoc, times_comm u (whole T))
          (le_trans _ (whole y *ℚ whole a) _ (rw (← whole_times y a) (whole_le _ _ q))
          (times_le_both (whole y) (whole y) _ _ (le_refl _)
          (le_trans _ _ _ low (times_le_both (whole T) (whole T) _ _ (le_refl _) (b' K))))))))),
    )
