-- The mean under a common factor: the sum of the means of the units.
use Rattle.dl_model.proofs.Common.{◌≡◌, ℕ, ◌≤◌, arith, ap, ap₂, subst, ◌∙◌, List, [], ◌∷◌, All, All-cons, All-nil, get_or, length, Outcome, ◌<◌, ◌≤ℚ◌, Fraction, whole, ◌+ℚ◌, ◌*ℚ◌, ◌/ℚ◌, ◌<ℚ◌, ring, sum_to, sum_over, sum_to_same, sum_to_plus, sum_to_times, times_zero, plus_times, zero_times, div_times, pairs_of, mean_amount, probability_of, expected_count, IsValidUnit, Holds, One, Mean, partial_sums, loss_of, map, declared_mean, CanShare, HasCommonFactor, expected_of, common_sums, pooled_severity, expected_claims, poisson_units, fun_ext, sum_to_none, times_right_comm, UnitOfPlan, poisson_unit}
use Rattle.dl_model.proofs.TotalLaws.{ends_in_order, holds_wider, outcomes_rise}
use Rattle.dl_model.proofs.Bounded.{are_units, quantity_bounded, whole_positive}
use Rattle.dl_model.proofs.ItemWeights.{severity_mean}
use Rattle.dl_model.proofs.PooledLoss.{common_mean}
use Rattle.dl_model.proofs.PlanUnits.{units_declared}
use Rattle.dl_model.proofs.PlanMeans.{MeanHolds, unit_mean, units_mean}
use Rattle.dl_model.proofs.CommonPlans.{expected_units, are_severities, pooled_over, greatest_among, greatest_of, is_unit, pooled_past, some}
use Rattle.dl_model.proofs.SharedValues.{outcome_holds}

-- the mean of a claim of whatever unit, times the number of all
mixed_mean : (v : Fraction) → whole 0 <ℚ v → (units : List UnitOfPlan) (far : ℕ) → greatest_of units ≤ far
    → sum_to far (λ j. whole j *ℚ sum_over units (λ u. expected_count u.freq /ℚ v *ℚ probability_of u.sev j)) *ℚ v
    ≡ sum_over units declared_mean
unfolding sum_over
mixed_mean v pos [] far near = simp (times_zero, sum_to_none, zero_times)
mixed_mean v pos (u ∷ us) far near =
    let share = expected_count u.freq /ℚ v in
    let rest : ℕ → Fraction = λ j. sum_over us (λ w. expected_count w.freq /ℚ v *ℚ probability_of w.sev j) in
    ap (λ t. t *ℚ v) (sum_to_same far _ (λ j. share *ℚ (whole j *ℚ probability_of u.sev j) +ℚ whole j *ℚ rest j)
    (λ j b. (simp ring)) ∙ sum_to_plus far _ _ ∙ ap (λ t. t +ℚ sum_to far (λ j. whole j *ℚ rest j))
    (sum_to_times far share (λ j. whole j *ℚ probability_of u.sev j)
    ∙ ap (λ m. share *ℚ m) (severity_mean u.sev far (omega (arith, near)))))
    ∙ plus_times _ _ v ∙ ap₂ (λ s t. s +ℚ t) (times_right_comm share _ v
    ∙ ap (λ t. t *ℚ mean_amount (pairs_of u.sev)) (div_times (expected_count u.freq) v pos))
    (mixed_mean v pos us far (omega (arith, near)))

-- ---- the mean of the total

module _ (units : List UnitOfPlan) (r : Fraction) (factor : HasCommonFactor r units) where
  claims_mean : sum_to (greatest_of units) (λ j. whole j *ℚ pooled_severity (poisson_units units) j) *ℚ
      expected_claims (poisson_units units)
      ≡ sum_over units declared_mean
  claims_mean = ap₂ (λ f v. sum_to (greatest_of units) f *ℚ v)
      (fun_ext (λ j. ap (λ p. whole j *ℚ p) (pooled_over units j))) (expected_units units)
      ∙ mixed_mean (expected_of units) factor.some units (greatest_of units) (omega arith)

  pub shared_mean : Holds (common_sums r (poisson_units units) Mean)
      (common_sums r (poisson_units units) One)
      (sum_over units declared_mean) (sum_over units declared_mean)
  shared_mean = subst (λ m. Holds (common_sums r (poisson_units units) Mean)
      (common_sums r (poisson_units units) One) m m) claims_mean (common_mean r factor.shape.above
      (poisson_units units) (some units r factor) (are_severities units) (greatest_of units) (pooled_past units))

-- units that can share a factor have their means alone
each_mean : (cells : ℕ) (units : List UnitOfPlan) → All (IsValidUnit cells) units → All CanShare units
    → All (λ u. MeanHolds (u ∷ []) (declared_mean u) (declared_mean u)) units
each_mean cells units valid share k d h = unit_mean cells _ (valid k d h) (share k d h).clause (share k d h).zero

-- ends of the mean of units hold each exact value of it between them
between : (cells : ℕ) (units : List UnitOfPlan) (l h V : Fraction) → All (IsValidUnit cells) units
    → MeanHolds units l h → MeanHolds units V V → (l ≤ℚ V) × (V ≤ℚ h)
between cells units l h V valid ends exact =
    let are = units_declared cells units valid in
    let rise = outcomes_rise (map loss_of units) (are_units (map loss_of units) are) (λ ys. whole 1) in
    let bound = quantity_bounded (map loss_of units) One are tt in
    let level = whole_positive (map loss_of units) are in
    let order = ends_in_order (partial_sums (map loss_of units) One) rise bound.0 level.0 bound.1 level.1
    (partial_sums (map loss_of units) Mean) in
    (order l V ends.0 exact.1, order V h exact.0 ends.1)

-- ends of the mean of units hold it under a factor too
pub shared_total : (cells : ℕ) (r : Fraction) (l h : UnitOfPlan → Fraction) (units : List UnitOfPlan) → All (IsValidUnit cells) units
    → HasCommonFactor r units → All (λ u. MeanHolds (u ∷ []) (l u) (h u)) units
    → Holds (common_sums r (poisson_units units) Mean) (common_sums r (poisson_units units) One)
    (sum_over units l) (sum_over units h)
shared_total cells r l h units valid factor each =
    let V = sum_over units declared_mean in
    let exact = units_mean cells declared_mean declared_mean units valid (each_mean cells units valid factor.can_share) in
    let order = between cells units (sum_over units l) (sum_over units h) V valid (units_mean cells l h units valid each)
    exact in
    holds_wider _ _ V (sum_over units l) V (sum_over units h) order.0 order.1 (shared_mean units r factor)

-- ends of the mean of one unit alone hold that of its outcome beside the others, under a factor too
pub shared_outcome : (cells : ℕ) (r : Fraction) (units : List UnitOfPlan) → All (IsValidUnit cells) units
    → HasCommonFactor r units → (i : ℕ) (u : UnitOfPlan) (l h : Fraction) → i < length units
    → MeanHolds (get_or units i u ∷ []) l h
    → Holds (common_sums r (poisson_units units) (Outcome i)) (common_sums r (poisson_units units) One) l h
shared_outcome cells r units valid factor i u l h there held =
    let w = get_or units i u in
    let V = declared_mean w in
    let M = greatest_of units in
    let outcome = subst (λ m. Holds (common_sums r (poisson_units units) (Outcome i))
    (common_sums r (poisson_units units) One) m m)
    (ap (λ m. expected_count w.freq *ℚ m) (severity_mean w.sev M (greatest_among units i u there)))
    (outcome_holds r factor.shape.above (poisson_units units) (some units r factor) (are_severities units) M (pooled_past units) i
    (poisson_unit w) (is_unit units i u there)) in
    let order = between cells (w ∷ []) l h V
    (All-cons (IsValidUnit cells) w [] (valid i u there) (All-nil (IsValidUnit cells))) held
    (each_mean cells units valid factor.can_share i u there) in
    holds_wider _ _ V l V h order.0 order.1 outcome
