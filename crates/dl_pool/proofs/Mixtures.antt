-- What the mixture of the severities by the units' parts of all claims means.
use Rattle.dl_pool.proofs.Common.{ℕ, ◌≡◌, ◌∙◌, List, [], ◌∷◌, ◌++◌, length, map, true, false, cond, ◌==◌, refl, ap, ap₂, sym, flat_map, Fraction, whole, ◌over◌, ◌+ℚ◌, ◌*ℚ◌, ◌/ℚ◌, sum_over, times_zero, sum_over_map, sum_over_same, sum_over_times, sum_over_append, severity_total, Item, Sev, UnitOfPlan, Pairs, pairs_of, probability, probability_of, shares, expected_of, unit_share, shared_probabilities, PoissonUnit, pooled_severity, expected_claims, poisson_unit, poisson_units, Bool, map-append, length-map, probability-shares, scaled, mixture_of}

-- the probabilities of each list times its share, one list after another
abbrev pub mixed : List Pairs → List Fraction → Pairs
mixed [] shares = []
mixed (ps ∷ rest) [] = []
mixed (ps ∷ rest) (s ∷ shares) = scaled s ps ++ mixed rest shares

pub mixture_is : (t : ℕ) (atoms : List Sev) (ws : List ℕ)
    → mixture_of t atoms ws ≡ mixed (map pairs_of atoms) (map (λ w. w over t) ws)
mixture_is t [] ws = refl
mixture_is t (a ∷ atoms) [] = refl
mixture_is t (a ∷ atoms) (w ∷ ws) = ap (λ ps. scaled (w over t) (pairs_of a) ++ ps) (mixture_is t atoms ws)

cond_times : (b : Bool) (s y : Fraction) → cond b (s *ℚ y) (whole 0) ≡ s *ℚ cond b y (whole 0)
cond_times true s y = refl
cond_times false s y = sym (times_zero s)

probability_scaled : (s : Fraction) (ps : Pairs) (x : ℕ) → probability (scaled s ps) x ≡ s *ℚ probability ps x
probability_scaled s ps x =
    sum_over_map (λ pair. (pair.0, s *ℚ pair.1)) (λ pair. cond (pair.0 == x) pair.1 (whole 0)) ps
    ∙ sum_over_same _ (λ (pair : ℕ × Fraction). s *ℚ cond (pair.0 == x) pair.1 (whole 0)) ps
    (λ pair. cond_times (pair.0 == x) s pair.1)
    ∙ sum_over_times s (λ (pair : ℕ × Fraction). cond (pair.0 == x) pair.1 (whole 0)) ps

mixed_units : (v : Fraction) (units : List UnitOfPlan) (x : ℕ)
    → probability (mixed (map (λ u. pairs_of u.sev) units) (map (unit_share v) units)) x
    ≡ sum_over units (λ u. unit_share v u *ℚ probability_of u.sev x)
unfolding sum_over
mixed_units v [] x = refl
mixed_units v (u ∷ us) x =
    sum_over_append (λ pair. cond (pair.0 == x) pair.1 (whole 0)) (scaled (unit_share v u) (pairs_of u.sev)) _
    ∙ ap₂ (λ s t. s +ℚ t)
    (probability_scaled (unit_share v u) (pairs_of u.sev) x
    ∙ ap (λ t. unit_share v u *ℚ t) (probability-shares u.sev.items u.sev.total x (severity_total u.sev)))
    (mixed_units v us x)

seconds_scaled : (s : Fraction) (t : ℕ) (items : List Item)
    → map (λ pair. pair.1) (scaled s (shares items t)) ≡ map (λ (i : Item). s *ℚ i.weight over t) items
seconds_scaled s t [] = refl
seconds_scaled s t (x ∷ xs) = ap (λ ys. s *ℚ x.weight over t ∷ ys) (seconds_scaled s t xs)

mixed_products : (v : Fraction) (units : List UnitOfPlan)
    → map (λ pair. pair.1) (mixed (map (λ u. pairs_of u.sev) units) (map (unit_share v) units))
    ≡ flat_map (shared_probabilities v) units
mixed_products v [] = refl
mixed_products v (u ∷ us) =
    map-append (λ pair. pair.1) (scaled (unit_share v u) (pairs_of u.sev)) _
    ∙ ap₂ (λ xs ys. xs ++ ys) (seconds_scaled (unit_share v u) u.sev.total u.sev.items) (mixed_products v us)

module _ (v : Fraction) (units : List UnitOfPlan) (t : ℕ) (atoms : List Sev) (ws : List ℕ)
    (same : map pairs_of atoms ≡ map (λ u. pairs_of u.sev) units)
    (parts : map (λ w. w over t) ws ≡ map (unit_share v) units) where
  mixture_units : mixture_of t atoms ws ≡ mixed (map (λ u. pairs_of u.sev) units) (map (unit_share v) units)
  mixture_units = mixture_is t atoms ws ∙ ap₂ mixed same parts

  pub mixture_products : map (λ pair. pair.1) (mixture_of t atoms ws) ≡ flat_map (shared_probabilities v) units
  mixture_products = ap (λ ps. map (λ pair. pair.1) ps) mixture_units ∙ mixed_products v units

  pub as_many : length atoms ≡ length ws
  as_many =
      sym (length-map atoms pairs_of) ∙ ap length same ∙ length-map units (λ u. pairs_of u.sev)
      ∙ sym (length-map units (unit_share v)) ∙ sym (ap length parts) ∙ length-map ws (λ w. w over t)

  pub mixture_pooled : v ≡ expected_of units → (x : ℕ)
      → probability (mixture_of t atoms ws) x ≡ pooled_severity (poisson_units units) x
  mixture_pooled all x =
      ap (λ ps. probability ps x) mixture_units ∙ mixed_units v units x
      ∙ ap (λ w. sum_over units (λ u. unit_share w u *ℚ probability_of u.sev x)) (all ∙ sym (units_expected units))
      ∙ sym (sum_over_map poisson_unit
      (λ (u : PoissonUnit). u.mean /ℚ expected_claims (poisson_units units) *ℚ u.severity x) units)
    where
      units_expected : (us : List UnitOfPlan) → expected_claims (poisson_units us) ≡ expected_of us
      units_expected us = sum_over_map poisson_unit (λ (w : PoissonUnit). w.mean) us
