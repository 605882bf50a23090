-- The claims above 0 of units that share a factor: their sum, the same for the next shape, and the budget of a joint
-- mean.
use Rattle.dl_budget.proofs.Common.{ℕ, if◌then◌else◌, ◌==◌, ◌≡◌, ◌+◌, ◌-◌, ◌*◌, ◌^◌, ◌<◌, ◌≤◌, List, [], ◌∷◌, length, get_or, take, arith, refl, sym, ap, ap₂, subst, ◌∙◌, Fraction, whole, ◌≤ℚ◌, over_self, one_pos, le_over, div_ceil, div_ceil_times, div_ceil_least, mul-le-mul, mul-le-mul_right, up, IsValidUnit, take_more, get_or-map, All, most_claims_budget, most_expected, most_plan_cells, ◌+ℚ◌, ◌*ℚ◌, ◌<ℚ◌, le_div, le_refl, lt_not_le, plus_zero, times_le_both, whole_le, sum_over_append, UnitOfPlan, Plan, IsUnbounded, HasPartsOf48Bits, thinned_mean, IsValid, CanShare, Some, HasCommonFactor, FitsFrac, admitted_fits, expected_of, raised, thinned_of, ◌/ℚ◌, ◌%◌, div_le_both, div_times, le_plus, times_cancel, IsGammaOn, convolution_spread, shape_spread, whole_part, whole_spread, Bool, true, false, sum_over, times_right_comm, poisson_unbounded, joint_by, cv_rises, pw_rises, gamma_budget, raised_budget, shape_budget, shared_joint_budget, thinned_at}
use Rattle.dl_exact.proofs.Laws.{le_trans, plus_comm, times_one}
use Rattle.dl_budget.proofs.Bases.{base_parts, beta_room}
use Rattle.dl_budget.proofs.Sums.{read_unit}

-- ---- what a valid plan has

pub shares_unbounded : (u : UnitOfPlan) → CanShare u → IsUnbounded u.freq
shares_unbounded u can = poisson_unbounded u.freq can.count

-- ---- the sum

pub sum_none : whole 0 ≡ thinned_of []
unfolding sum_over
sum_none = refl

alone : (u : UnitOfPlan) → thinned_of (u ∷ []) ≡ thinned_mean u
unfolding sum_over
alone u = plus_zero (thinned_mean u)

pub sum_next : (units : List UnitOfPlan) (i : ℕ) (u : UnitOfPlan) (sum n : Fraction) → i < length units
    → u ≡ get_or units i u → sum ≡ thinned_of (take i units) → n ≡ thinned_mean u
    → sum +ℚ n ≡ thinned_of (take (i + 1) units)
sum_next units i u sum n h is before own =
    ap₂ (λ x y. x +ℚ y) before (own ∙ ap thinned_mean is ∙ sym (alone (get_or units i u)))
    ∙ sym (ap thinned_of (take_more units i u h) ∙ sum_over_append thinned_mean (take i units) (get_or units i u ∷ []))

pub next_fits : (units : List UnitOfPlan) (i : ℕ) (u : UnitOfPlan) (sum n : Fraction) → i < length units
    → u ≡ get_or units i u → sum ≡ thinned_of (take i units) → n ≡ thinned_mean u
    → ((k : ℕ) → 1 ≤ k → k ≤ length units → HasPartsOf48Bits (thinned_of (take k units))) → FitsFrac (sum +ℚ n)
next_fits units i u sum n h is before own admitted = subst FitsFrac (sym (sum_next units i u sum n h is before own))
    (admitted_fits _ (admitted (i + 1) (omega arith) (omega arith)))

-- ---- the one gamma count in the place of the units, and that of the next shape

-- raising makes no less, and no less than a part for each 1 of the shape
raised_more : (r x : Fraction) → whole 0 <ℚ r → x ≤ℚ raised r x
raised_more r x above = le_div x r (x *ℚ (r +ℚ whole 1)) above (times_le_both x x r _ (le_refl x) (le_plus r (whole 1)))

raised_parts : (r x : Fraction) → whole 0 <ℚ r → x /ℚ r ≤ℚ raised r x
raised_parts r x above =
    let one : whole 1 ≤ℚ r +ℚ whole 1 = subst (λ t. whole 1 ≤ℚ t) (plus_comm (whole 1) r) (le_plus (whole 1) r) in
    div_le_both x (x *ℚ (r +ℚ whole 1)) r r above
    (subst (λ t. t ≤ℚ x *ℚ (r +ℚ whole 1)) (times_one x) (times_le_both x x _ _ (le_refl x) one)) (le_refl r)

-- the next shape has as many for each 1 of it
raised_beta : (r x : Fraction) → whole 0 <ℚ r → whole 0 <ℚ r +ℚ whole 1 → raised r x /ℚ (r +ℚ whole 1) ≡ x /ℚ r
raised_beta r x above next =
    times_cancel _ _ (r +ℚ whole 1) next
    (div_times (raised r x) (r +ℚ whole 1) next
    ∙ times_cancel _ _ r above (div_times (x *ℚ (r +ℚ whole 1)) r above
    ∙ sym (times_right_comm (x /ℚ r) (r +ℚ whole 1) r ∙ ap (λ t. t *ℚ (r +ℚ whole 1)) (div_times x r above))))

module _ (K : ℕ) (r : Fraction) (units : List UnitOfPlan) (few : K ≤ 65536) (factor : HasCommonFactor r units) where
  -- the one unit's count can be counted with
  pub shared_on : IsGammaOn K r (thinned_of units)
  shared_on = record {
    few = few;
    of_shape = factor.shape;
    within = le_trans _ _ _ (raised_more r (thinned_of units) factor.shape.above) factor.few;
    beta = factor.thinned_beta;
    below_one = λ below. beta_room K (thinned_of units /ℚ r) few
        (le_trans _ _ _ (raised_parts r (thinned_of units) factor.shape.above)
        (le_trans _ _ _ factor.few (whole_le 4096 32768 (omega arith))));
  }

  -- and so can that of the next shape
  pub raised_on : IsGammaOn K (r +ℚ whole 1) (raised r (thinned_of units))
  raised_on = record {
    few = few;
    of_shape = factor.next_shape;
    within = factor.few;
    beta = subst FitsFrac (sym (raised_beta r (thinned_of units) factor.shape.above factor.next_shape.above))
        factor.thinned_beta;
    below_one = λ below. absurd (lt_not_le (r +ℚ whole 1) (whole 1) below
        (subst (λ t. whole 1 ≤ℚ t) (plus_comm (whole 1) r) (le_plus (whole 1) r)));
  }

-- ---- fewer cells

ceil_rises : (m n d : ℕ) → 0 < d → m ≤ n → div_ceil m d ≤ div_ceil n d
ceil_rises m n d pos h = div_ceil_least m d (div_ceil n d) pos (omega (arith, h, (div_ceil_times n d pos).0))

base_rises : (a b : ℕ) (beta : Fraction) → a ≤ b → up (whole a *ℚ (whole 1 +ℚ beta)) ≤ up (whole b *ℚ (whole 1 +ℚ beta))
base_rises a b beta h = rw (base_parts a beta, base_parts b beta)
    (ceil_rises _ _ _ beta.positive (mul-le-mul_right (beta.den + beta.num) h))

gamma_rises : (S k l : ℕ) (shape m : Fraction) → 0 < S → k ≤ l → gamma_budget S k shape m ≤ gamma_budget S l shape m
unfolding gamma_budget
gamma_rises S k l shape m pos h = by (shape.num % shape.den == 0) (whole_part shape == 0)
  where
    whole_rises : whole_spread S k shape (m /ℚ shape) ≤ whole_spread S l shape (m /ℚ shape)
    whole_rises = pw_rises S k l _ _ (whole_part shape) pos h
        (base_rises (4 * k + 1) (4 * l + 1) (m /ℚ shape) (omega (arith, h)))

    rest_rises : shape_spread k (m /ℚ shape) ≤ shape_spread l (m /ℚ shape)
    rest_rises = base_rises (6 * k + 2) (6 * l + 2) (m /ℚ shape) (omega (arith, h))

    by : (none below : Bool)
        → (if none then whole_spread S k shape (m /ℚ shape) else if below then shape_spread k (m /ℚ shape)
        else convolution_spread S k (whole_spread S k shape (m /ℚ shape)) (shape_spread k (m /ℚ shape)))
        ≤ (if none then whole_spread S l shape (m /ℚ shape) else if below then shape_spread l (m /ℚ shape)
        else convolution_spread S l (whole_spread S l shape (m /ℚ shape)) (shape_spread l (m /ℚ shape)))
    by true below = whole_rises
    by false true = rest_rises
    by false false = cv_rises S k l _ _ _ _ pos h whole_rises rest_rises

-- on fewer cells the budget of a shape is no more
pub shape_rises : (S k l : ℕ) (shape thinned : Fraction) → 0 < S → k ≤ l
    → shape_budget S k shape thinned ≤ shape_budget S l shape thinned
shape_rises S k l shape thinned pos h = by (thinned.num == 0)
  where
    by : (none : Bool) → (if none then 0 else gamma_budget S k shape thinned) ≤ (if none then 0 else gamma_budget S l shape thinned)
    by true = omega arith
    by false = gamma_rises S k l shape thinned pos h

-- ---- a joint mean

up_few : (x : Fraction) → x ≤ℚ whole most_expected → up x ≤ most_expected
unfolding up
up_few x h = div_ceil_least x.num x.den most_expected x.positive
    (omega (
      arith,
      le_over x.num x.den most_expected 1 x.positive one_pos
          (subst (λ y. y ≤ℚ whole most_expected) (sym (over_self x)) h),
    ))

pub joint_small : (cells before : ℕ) (thinned : Fraction) → cells ≤ most_plan_cells → before ≤ most_claims_budget
    → thinned ≤ℚ whole most_expected → (cells * before + 2) * up thinned + 2 ≤ 2 ^ 63
joint_small cells before thinned few small within =
    let beside : cells * before + 2 ≤ most_plan_cells * most_claims_budget + 2 = omega (arith, mul-le-mul few small) in
    omega (arith, mul-le-mul beside (up_few thinned within))

pub joint_fits : (cells before most : ℕ) → cells ≤ most_plan_cells → before < 2 ^ 45 → most < 2 ^ 64
    → (cells * before + 2) * most + 2 < 2 ^ 128
joint_fits cells before most few small word =
    let below : before ≤ 2 ^ 45 = omega (arith, small) in
    let beside : cells * before + 2 ≤ 2 ^ 61 + 2 = omega (arith, mul-le-mul few below) in
    let least : most ≤ 2 ^ 64 - 1 = omega (arith, word) in
    omega (arith, mul-le-mul beside least)

-- that of a unit which was read there
pub thinned_here : (units : List UnitOfPlan) (i : ℕ) (u : UnitOfPlan) → i < length units → u ≡ get_or units i u
    → thinned_mean u ≡ thinned_at units i
thinned_here units i u inside is = ap thinned_mean is ∙ sym (get_or-map thinned_mean units i u (whole 0) inside)

-- ---- the units of a valid plan, as they were read

pub read_valid : (plan : Plan) (units : List UnitOfPlan) → IsValid plan → units ≡ plan.units
    → (h : ℕ) × All (IsValidUnit h) units
read_valid plan units valid is = (plan.cells, subst (All (IsValidUnit plan.cells)) (sym is) valid.units)

-- those of a plan whose units share a factor
module _ (plan : Plan) (r : Fraction) (valid : IsValid plan) (common : plan.common ≡ Some r) (units : List UnitOfPlan)
    (same : units ≡ plan.units) where
  pub factor_of : HasCommonFactor r units
  factor_of = subst (HasCommonFactor r) (sym same) (rw common at valid.common)

  module _ (i : ℕ) (u : UnitOfPlan) (inside : i < length plan.units) (is : u ≡ get_or units i u) where
    pub unbounded_there : IsUnbounded u.freq
    unbounded_there = shares_unbounded u (subst CanShare (sym is) (factor_of.can_share i u (rw same inside)))

    pub joint_value : (S before x : ℕ) → before ≡ raised_budget S plan.cells r units
        → x ≡ shared_joint_budget plan.cells before (thinned_mean u) → x ≡ joint_by plan.common S plan i
    joint_value S before x raised here =
        rw common (here ∙ ap₂ (shared_joint_budget plan.cells) (raised ∙ ap (raised_budget S plan.cells r) same)
        (thinned_here plan.units i u inside (read_unit units plan.units i u same is)))
