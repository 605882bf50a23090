-- Plans whose units share a common factor: what they declare is bounded, above 0 somewhere, and adds up to 1.
use Rattle.dl_model.proofs.Common.{◌≡◌, ℕ, zero, suc, ◌<◌, ◌≤◌, max, arith, refl, ap, ◌∙◌, List, [], ◌∷◌, Option, None, Some, IfSome, Fraction, whole, ◌*ℚ◌, ◌/ℚ◌, ◌<ℚ◌, sum_over, times_zero, plus_zero, greatest, probability_of, expected_count, Series, One, IsQuantile, sum_over_map, Plan, HasCommonFactor, expected_of, Quantity, IsBracketed, IsValid, aggregates_of, PoissonUnit, IsUnit, length, get_or, expected_claims, common_sums, pooled_severity, AreSeverities, poisson_unit, poisson_units, declared, declared_by, UnitOfPlan}
use Rattle.dl_model.proofs.ItemWeights.{shares_severity}
use Rattle.dl_model.proofs.PooledLoss.{common_distribution}
use Rattle.dl_model.proofs.Bracket.{bracket_holds, one_quantile}
use Rattle.dl_model.proofs.Bounded.{IsDistribution, losses_distribution}
use Rattle.dl_model.proofs.PlanUnits.{plan_declared}

-- ---- the units as units under a common factor

pub expected_units : (units : List UnitOfPlan) → expected_claims (poisson_units units) ≡ expected_of units
expected_units units = sum_over_map poisson_unit (λ (w : PoissonUnit). w.mean) units

pub are_severities : (units : List UnitOfPlan) → AreSeverities (poisson_units units)
are_severities [] = tt
are_severities (u ∷ us) = (shares_severity u.sev.items u.sev.total u.sev.weighted, are_severities us)

pub pooled_over : (units : List UnitOfPlan) (x : ℕ) → pooled_severity (poisson_units units) x
    ≡ sum_over units (λ u. expected_count u.freq /ℚ expected_of units *ℚ probability_of u.sev x)
pooled_over units x =
    sum_over_map poisson_unit
    (λ (u : PoissonUnit). u.mean /ℚ expected_claims (poisson_units units) *ℚ u.severity x) units
    ∙ ap (λ v. sum_over units (λ u. expected_count u.freq /ℚ v *ℚ probability_of u.sev x)) (expected_units units)

-- the greatest amount of all units
abbrev pub greatest_of : List UnitOfPlan → ℕ
greatest_of [] = 0
greatest_of (u ∷ us) = max (greatest u.sev.items) (greatest_of us)

pub greatest_among : (units : List UnitOfPlan) (i : ℕ) (u : UnitOfPlan) → i < length units
    → greatest (get_or units i u).sev.items ≤ greatest_of units
greatest_among [] i u h = absurd (omega arith)
greatest_among (w ∷ us) zero u h = omega arith
greatest_among (w ∷ us) (suc i) u h = omega (arith, greatest_among us i u (omega arith))

pub is_unit : (units : List UnitOfPlan) (i : ℕ) (u : UnitOfPlan) → i < length units
    → IsUnit (poisson_units units) i (poisson_unit (get_or units i u))
is_unit [] i u h = absurd (omega arith)
is_unit (w ∷ us) zero u h = refl
is_unit (w ∷ us) (suc i) u h = is_unit us i u (omega arith)

none_past : (v : Fraction) (units : List UnitOfPlan) (a : ℕ) → greatest_of units < a
    → sum_over units (λ u. expected_count u.freq /ℚ v *ℚ probability_of u.sev a) ≡ whole 0
unfolding sum_over
none_past v [] a far = refl
none_past v (u ∷ us) a far =
    rw (
      (shares_severity u.sev.items u.sev.total u.sev.weighted).past a (omega (arith, far)),
      none_past v us a (omega (arith, far)),
    ) (simp (times_zero, plus_zero))

pub pooled_past : (units : List UnitOfPlan) (a : ℕ) → greatest_of units < a
    → pooled_severity (poisson_units units) a ≡ whole 0
pooled_past units a far = pooled_over units a ∙ none_past (expected_of units) units a far

module _ (units : List UnitOfPlan) (r : Fraction) (factor : HasCommonFactor r units) where
  pub some : whole 0 <ℚ expected_claims (poisson_units units)
  some = rw (expected_units units) factor.some

  pub shared_distribution : IsDistribution (common_sums r (poisson_units units))
  shared_distribution =
      common_distribution r factor.shape.above (poisson_units units) some (are_severities units) (greatest_of units)
      (pooled_past units)

-- ---- by the factor that a plan has, or has not

pub declared_is : (plan : Plan) (r : Fraction) → plan.common ≡ Some r
    → declared plan ≡ common_sums r (poisson_units plan.units)
declared_is plan r shape = ap (λ common. declared_by common plan.units) shape

-- where each of two holds, that which a plan declares does
pub by_factor : (P : (Quantity → Series) → Type 0) (common : Option Fraction) (units : List UnitOfPlan)
    → IfSome common (λ r. HasCommonFactor r units) → P (declared_by None units)
    → ((r : Fraction) → HasCommonFactor r units → P (common_sums r (poisson_units units)))
    → P (declared_by common units)
by_factor P None units factor none some = none
by_factor P (Some r) units factor none some = some r factor

pub plan_distribution : (plan : Plan) → IsValid plan → IsDistribution (declared plan)
plan_distribution plan h = by_factor IsDistribution plan.common plan.units h.common
    (losses_distribution (aggregates_of plan) (plan_declared plan h)) (shared_distribution plan.units)

-- ---- quantiles

module _ (D : Quantity → Series) (d : IsDistribution D) (p : Fraction) where
  pub inside : (q lo : ℕ) (hi : Option ℕ) → IsQuantile D q p → IsBracketed D lo hi p
      → (lo ≤ q) × ((x : ℕ) → hi ≡ Some x → q ≤ x)
  inside = bracket_holds D d.grows d.rises (d.bounded One tt).0 d.positive.0 (d.bounded One tt).1 d.positive.1 p

  pub at_most_one : (q q' : ℕ) → IsQuantile D q p → IsQuantile D q' p → q ≡ q'
  at_most_one = one_quantile D d.grows d.rises (d.bounded One tt).0 d.positive.0 (d.bounded One tt).1 d.positive.1 p
