-- The share of a unit of a valid plan in the tail mean, from what is known at both ends of a bracket of the quantile,
-- under a common factor too.
use Rattle.dl_model.proofs.Common.{◌≡◌, ℕ, ◌≤◌, refl, sym, subst, List, length, map, Option, None, Some, Fraction, whole, ◌+ℚ◌, ◌-ℚ◌, ◌*ℚ◌, ◌/ℚ◌, ◌≤ℚ◌, ◌<ℚ◌, sum_to, Series, IsBound, Rises, AtMost, AtLeast, Holds, AreDeclarable, Quantity, One, Point, Cdf, Outcome, Joint, Part, Share, Tail, sum_below, score, sum, nat_le, where_true, Bool, true, false, one_times, le_refl, le_trans, zero_le, ◌∙◌, sum_over_outcomes, HoldsShare, Plan, IsValid, UnitOfPlan, aggregates_of, loss_of, declared, declared_by, poisson_units, length-map, poisson_unit}
use Rattle.dl_model.proofs.TotalLaws.{outcomes_rise, points_to}
use Rattle.dl_model.proofs.Bounded.{are_units}
use Rattle.dl_model.proofs.PlanUnits.{plan_declared}
use Rattle.dl_model.proofs.CommonPlans.{plan_distribution}
use Rattle.dl_model.proofs.Weighings.{IsWeighing, losses_weighing, weighed_by, weighed_same, weighed_sum}
use Rattle.dl_model.proofs.SharedBounds.{values, values_rise, shared_weighing}
use Rattle.dl_model.proofs.ShareLaws.{joint_means, shares_add_up}
use Rattle.dl_model.proofs.ShareEnds.{AtomMost, AtomLeast, atom_whole as whole_atom, atom_most as most_of_atom, atom_least as least_of_atom, share_most, share_least}

-- ---- the weighing by which units declare each quantity

-- of independent units, or of units that share a factor of shape r
abbrev pub weighing_of : Option Fraction → List UnitOfPlan → (List ℕ → Fraction) → Series
weighing_of None units = sum_over_outcomes (map loss_of units)
weighing_of (Some r) units = values r (poisson_units units)

pub is_weighing : (common : Option Fraction) (units : List UnitOfPlan) → IsWeighing (length units) (weighing_of common units)
is_weighing None units = subst (λ n. IsWeighing n (weighing_of None units)) (length-map units loss_of)
    (losses_weighing (map loss_of units))
is_weighing (Some r) units = subst (λ n. IsWeighing n (weighing_of (Some r) units)) (length-map units poisson_unit)
    (shared_weighing r (poisson_units units))

pub declared_weighed : (common : Option Fraction) (units : List UnitOfPlan)
    → weighed_by (weighing_of common units) ≡ declared_by common units
declared_weighed None units = refl
declared_weighed (Some r) units = refl

pub units_joint_means : (common : Option Fraction) (units : List UnitOfPlan) (x N : ℕ)
    → sum_below (length units) (λ i. declared_by common units (Joint i x) N)
    ≡ whole x *ℚ declared_by common units (Point x) N
units_joint_means common units x N = subst (λ D. sum_below (length units) (λ i. D (Joint i x) N) ≡ whole x *ℚ D (Point x) N)
    (declared_weighed common units)
    (joint_means (length units) (weighing_of common units) (is_weighing common units) x N)

pub units_shares : (common : Option Fraction) (units : List UnitOfPlan) (p u : Fraction) (q N : ℕ) → p <ℚ whole 1
    → u ≤ℚ whole 1
    → (whole 1 -ℚ p) *ℚ sum_below (length units) (λ i. declared_by common units (Share i p q u) N) +ℚ
    whole q *ℚ declared_by common units (Part q u) N
    ≡ (whole 1 -ℚ p) *ℚ declared_by common units (Tail p q) N +ℚ p *ℚ whole q *ℚ declared_by common units One N
units_shares common units p u q N below le =
    subst (λ D. (whole 1 -ℚ p) *ℚ sum_below (length units) (λ i. D (Share i p q u) N) +ℚ whole q *ℚ D (Part q u) N
    ≡ (whole 1 -ℚ p) *ℚ D (Tail p q) N +ℚ p *ℚ whole q *ℚ D One N) (declared_weighed common units)
    (shares_add_up p u q below le (length units) (weighing_of common units) (is_weighing common units) N)

weighing_rises : (common : Option Fraction) (units : List UnitOfPlan) → AreDeclarable (map loss_of units)
    → (f : List ℕ → Fraction) → Rises (weighing_of common units f)
weighing_rises None units are f = outcomes_rise (map loss_of units) are f
weighing_rises (Some r) units are f = values_rise r (poisson_units units) f

module _ (plan : Plan) (valid : IsValid plan) where
  abbrev n : ℕ
  n = length plan.units

  abbrev E : (List ℕ → Fraction) → Series
  E = weighing_of plan.common plan.units

  abbrev w : IsWeighing n E
  w = is_weighing plan.common plan.units

  rise : (f : List ℕ → Fraction) → Rises (E f)
  rise = weighing_rises plan.common plan.units (are_units (aggregates_of plan) (plan_declared plan valid))

  abbrev D : Quantity → Series
  D = declared plan

  -- what holds of the weighing holds of what the plan declares
  of_plan : (P : (Quantity → Series) → Type 0) → P (weighed_by E) → P D
  of_plan P = subst P (declared_weighed plan.common plan.units)

  bound : (v : Fraction) × IsBound (E (score One)) v
  bound = subst (λ F. (v : Fraction) × IsBound (F One) v) (sym (declared_weighed plan.common plan.units))
      ((plan_distribution plan valid).bounded One tt)

  -- ---- the distribution

  pub quantity_rises : (quantity : Quantity) → Rises (D quantity)
  quantity_rises quantity = of_plan (λ D. Rises (D quantity)) (rise (score quantity))

  pub cdf_points : (x N : ℕ) → D (Cdf x) N ≡ sum_to x (λ y. D (Point y) N)
  cdf_points x N = of_plan (λ D. D (Cdf x) N ≡ sum_to x (λ y. D (Point y) N))
      (weighed_same E _ _ N (λ ys. points_to x (sum ys)) ∙ weighed_sum n E w x (λ y. score (Point y)) N)

  pub cdf_most_one : (x : ℕ) → AtMost (D (Cdf x)) (D One) (whole 1)
  cdf_most_one x = of_plan (λ D. AtMost (D (Cdf x)) (D One) (whole 1)) (λ N u b. rw one_times
      (le_trans _ _ _ (w.grows (score (Cdf x)) (score One) (λ ys. where_most (nat_le (sum ys) x)) N) (b N)))
    where
      where_most : (b : Bool) → where_true b (whole 1) ≤ℚ whole 1
      where_most true = le_refl (whole 1)
      where_most false = zero_le (whole 1)

  module _ (i : ℕ) (p : Fraction) where
    -- ---- the part of the unit's outcome at a total that lies in the tail

    pub atom_whole : (x : ℕ) (a : Fraction) → AtMost (D (Joint i x)) (D One) a → AtomMost D i p x a
    atom_whole x a = of_plan (λ D. AtMost (D (Joint i x)) (D One) a → AtomMost D i p x a)
        (whole_atom n E w rise bound.0 bound.1 i p x a)

    pub atom_most : (x : ℕ) (j c f a : Fraction) → whole 0 <ℚ c → AtMost (D (Joint i x)) (D One) j
        → AtLeast (D (Point x)) (D One) c → AtMost (D (Cdf x)) (D One) f → j *ℚ (f -ℚ p) ≤ℚ a *ℚ c → AtomMost D i p x a
    atom_most x j c f a pos = of_plan (λ D. AtMost (D (Joint i x)) (D One) j
        → AtLeast (D (Point x)) (D One) c → AtMost (D (Cdf x)) (D One) f → j *ℚ (f -ℚ p) ≤ℚ a *ℚ c → AtomMost D i p x a)
        (most_of_atom n E w rise bound.0 bound.1 i p x j c f a pos)

    -- where the total has no probability, no outcome of a unit is there: c may be 0
    pub atom_least : (x : ℕ) (j c f a : Fraction) → AtLeast (D (Joint i x)) (D One) j
        → AtMost (D (Point x)) (D One) c → AtLeast (D (Cdf x)) (D One) f → a ≤ℚ j → a *ℚ c ≤ℚ j *ℚ (f -ℚ p)
        → AtomLeast D i p x a
    atom_least x j c f a = of_plan (λ D. AtLeast (D (Joint i x)) (D One) j
        → AtMost (D (Point x)) (D One) c → AtLeast (D (Cdf x)) (D One) f → a ≤ℚ j → a *ℚ c ≤ℚ j *ℚ (f -ℚ p)
        → AtomLeast D i p x a)
        (least_of_atom n E w rise bound.0 bound.1 i p x j c f a)

    -- ---- the share, where the quantile q lies from lo to hi

    pub share_between : p <ℚ whole 1 → (lo q hi : ℕ) → lo ≤ q → q ≤ hi → (ml mh bl bh al ah : Fraction)
        → Holds (D (Outcome i)) (D One) ml mh → AtLeast (λ N. sum_to lo (λ x. D (Joint i x) N)) (D One) bl
        → AtMost (λ N. sum_to hi (λ x. D (Joint i x) N)) (D One) bh → AtomMost D i p lo ah → AtomLeast D i p hi al
        → AtLeast (D (Joint i hi)) (D One) al
        → HoldsShare D i p q ((ml -ℚ bh +ℚ al) /ℚ (whole 1 -ℚ p)) ((mh -ℚ bl +ℚ ah) /ℚ (whole 1 -ℚ p))
    share_between below lo q hi first last ml mh bl bh al ah = of_plan (λ D. Holds (D (Outcome i)) (D One) ml mh
        → AtLeast (λ N. sum_to lo (λ x. D (Joint i x) N)) (D One) bl
        → AtMost (λ N. sum_to hi (λ x. D (Joint i x) N)) (D One) bh → AtomMost D i p lo ah → AtomLeast D i p hi al
        → AtLeast (D (Joint i hi)) (D One) al
        → HoldsShare D i p q ((ml -ℚ bh +ℚ al) /ℚ (whole 1 -ℚ p)) ((mh -ℚ bl +ℚ ah) /ℚ (whole 1 -ℚ p)))
        (λ mean early late high low joint. record {
          at_most = share_most n E w rise bound.0 bound.1 i p below lo q first mh bl ah mean.1 early high;
          at_least = share_least n E w rise bound.0 bound.1 i p below q hi last ml bh al mean.0 late low (λ far. joint);
        })
