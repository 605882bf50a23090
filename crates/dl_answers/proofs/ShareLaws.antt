-- The share of a unit in a total, and in the tail mean.
use Rattle.dl_answers.proofs.Common.{ℕ, ◌≡◌, ◌+◌, ◌-◌, ◌*◌, ◌^◌, ◌<◌, ◌≤◌, ◌↔◌, ◌⊎◌, List, [], ◌∷◌, length, get_or, get_or-map, map, arith, inl, inr, refl, sym, ap, subst, ◌∙◌, mul-le-mul, mul-le-mul_left, mul-le-mul_right, pow_pos, Option, None, Some, IsNone, IfSome, Fraction, whole, ◌over◌, ◌+ℚ◌, ◌≤ℚ◌, ◌<ℚ◌, le_refl, lt_of_lt_of_le, plus_le_both, sub_le_both, over_le_over, over_lt, over_plus, up, Iv, low_at, high_at, spread, low_cdf, IsFirstFound, Series, AtLeast, Holds, Quantity, One, Mean, Point, Joint, Loss, AreDeclared, IsQuantile, GridEncloses, partial_sums, total, declared, loss_of, aggregates_of, declared_by, plan_declared, at_least_wider, at_most_wider, Plan, UnitOfPlan, IsValid, Row, claims_budget, none_budget, horizon, mean_width, declared_mean, unit_mean_budget, total_budget, joint_budget, kappa_budget, cotail_budget, ask_budget, in_digits, index_of, IsTotalOf, Prints, Declares, DeclaresGiven, DeclaresShare, IsAtLeast, IsAtMost, IsBelow, IsBeyond, IsShareOfUnit, IsTailShare, IsNoTailShare, IsTooRare, IsAnswerTo, at_the_end, least_likely, total_error, IsJointOf, num_below, CanShare, has_factor, HoldsShare, Outcome, share_budget, undivided_by, mean_after_zero, IsPast, MayBeAbsent, GivesJoints, IsSharedBy, joint_width, conditional_width, share_width, whole_share_width, IsPart, Part}
use Rattle.dl_plan.specs.declared.settings.Ask.TheVariants as asks
use Rattle.dl_answers.proofs.GoodRows.{cell_apart, plus_lt}
use Rattle.dl_answers.proofs.Printed.{Widens, are_ends, declared_ends, given_widens}
use Rattle.dl_answers.proofs.Tails.{tail_reached, up_rises}

-- ---- the mean outcome at a total

divided_width : (K D J at low high l h w : ℕ) → at ≤ K → high ≤ low + D → h ≤ l + J
    → w ≤ 2 ^ 16 * (at * (high - low) + (h - l)) + 2
    → w ≤ 2 ^ 16 * (K * D + J) + 2
divided_width K D J at low high l h w inside cell joint width =
    let product : at * (high - low) ≤ K * D = mul-le-mul inside (narrow_cell low high D cell) in
    let parts : at * (high - low) + (h - l) ≤ K * D + J = omega (arith, joint, product) in
    omega (arith, width, mul-le-mul_left (2 ^ 16) parts)
  where
    narrow_cell : (low high D : ℕ) → high ≤ low + D → high - low ≤ D
    narrow_cell low high D cell = omega (arith, cell)

cell_holds : {B : ℕ} {plan : Plan} {g : List (Iv B)} (at : ℕ) {low high : ℕ} → low ≡ low_at g at → high ≡ high_at g at
    → at < plan.cells → IsTotalOf plan g
    → Declares plan (Point at) (low over 2 ^ B) (high over 2 ^ B)
cell_holds at of_low of_high inside t = rw (of_low, of_high) (t.encloses at (omega (arith, inside, t.cells)))

pub share_answer : {B : ℕ} {plan : Plan} {g : List (Iv B)} {joint : Iv B} {i at low high d lo hi : ℕ} {row : Row}
    → low ≡ low_at g at → high ≡ high_at g at
    → ((Q R O : Series) → Holds Q O (joint.lo over 2 ^ B) (joint.hi over 2 ^ B)
    → Holds R O (low over 2 ^ B) (high over 2 ^ B)
    → AtLeast R O (1 over 2 ^ 16) × Holds Q R (lo over 2 ^ B) (hi over 2 ^ B))
    → ((k : ℕ) → joint.lo ≤ k * high → hi - lo ≤ 2 ^ 16 * (k * (high - low) + (joint.hi - joint.lo)) + 2)
    → ((h : ℕ) → IsAtMost plan (Point at) (h over 2 ^ B) → joint.lo ≤ at * h)
    → at < plan.cells → IsTotalOf plan g → IsJointOf plan i at joint → Prints (2 ^ B) lo hi d row
    → IsShareOfUnit plan i at d (in_digits (2 ^ B) (kappa_budget (2 ^ B) plan i) d) row
share_answer {B} {plan} {g} {joint} {i} {at} {low} {high} {d} {lo} {hi} {row} of_low of_high divided width below
    inside t j
    printed =
    let cell : Declares plan (Point at) (low over 2 ^ B) (high over 2 ^ B) =
    cell_holds at of_low of_high inside t in
    let both = divided (declared plan (Joint i at)) (declared plan (Point at)) (declared plan One) j.holds cell in
    let apart : high ≤ low + total_budget (2 ^ B) plan = omega (arith, of_low, of_high, cell_apart g at, t.narrow) in
    record {
      likely = both.0;
      ends = are_ends B (DeclaresGiven plan (Point at) (Joint i at)) lo hi d (kappa_budget (2 ^ B) plan i) row
          (given_widens plan (Point at) (Joint i at)) printed both.1
          (omega (
            arith,
            divided_width plan.cells (total_budget (2 ^ B) plan)
                (joint_budget (2 ^ B) plan i) at low high joint.lo joint.hi (hi - lo) (omega (arith, inside)) apart
                j.narrow
                (width at (below high cell.1)),
          ));
    }

-- where there is none, the total is too rare
pub rare_answer : {B : ℕ} {plan : Plan} {g : List (Iv B)} (at : ℕ) {low high : ℕ} → low ≡ low_at g at
    → high ≡ high_at g at
    → low * 2 ^ 16 < 2 ^ B
    → at < plan.cells → IsTotalOf plan g → IsBelow plan (Point at) (least_likely +ℚ total_error (2 ^ B) plan)
rare_answer {B} {plan = plan} {g = g} at {low = low} {high = high} of_low of_high rare inside t =
    let D : ℕ = total_budget (2 ^ B) plan in
    let cell = cell_holds at of_low of_high inside t in
    let sum : high over 2 ^ B ≤ℚ (low + D) over 2 ^ B =
    over_le_over high (low + D) (2 ^ B) (pow_pos B) (omega (arith, of_low, of_high, cell_apart g at, t.narrow)) in
    let less : low over 2 ^ B <ℚ 1 over 2 ^ 16 = over_lt low (2 ^ B) 1 (2 ^ 16) (pow_pos B) (omega arith)
    (omega (arith, rare)) in (
      low over 2 ^ B +ℚ D over 2 ^ B,
      plus_lt (low over 2 ^ B) (1 over 2 ^ 16) (D over 2 ^ B) less,
      at_most_wider _ _ _ _ cell.1 (subst (λ t. high over 2 ^ B ≤ℚ t) (over_plus low D (2 ^ B) (pow_pos B)) sum),
    )

-- ---- its share in the tail mean

-- the share of unit i in the tail mean at p, whose ends lie at most `most` units apart
pub record IsTailShareOf {B : ℕ} (plan : Plan) (i : ℕ) (p : Fraction) (most : ℕ) (share : Iv B) : Type 0 where
  pub holds : DeclaresShare plan i p (share.lo over 2 ^ B) (share.hi over 2 ^ B)
  pub narrow : share.hi ≤ share.lo + most

if_some_two : {X : Type 0} (r : Option X) (P Q Z : X → Type 0) → ((x : X) → P x → Q x → Z x) → IfSome r P
    → IfSome r Q → IfSome r Z
if_some_two (Some x) P Q Z f p q = f x p q
if_some_two None P Q Z f p q = tt

-- some unit of a list that has one
some_unit : (us : List UnitOfPlan) (i : ℕ) → i < length us → UnitOfPlan
some_unit [] i inside = absurd (omega (arith, inside))
some_unit (u ∷ us) i inside = u

-- the budget of the mean of unit i
abbrev mean_budget_of : (S : ℕ) → Plan → ℕ → ℕ
mean_budget_of S plan i = get_or (map (unit_mean_budget S plan.cells) plan.units) i 0

-- what its share is drawn from
pub shared : {B : ℕ} {part : Part B} → IsPart part
    → ((j : ℕ) (v : UnitOfPlan) (l h : Fraction) → j < length part.plan.now.units
    → Holds (partial_sums (loss_of (get_or part.plan.now.units j v) ∷ []) Mean)
    (partial_sums (loss_of (get_or part.plan.now.units j v) ∷ []) One) l h
    → Holds (declared part.plan.now (Outcome j)) (declared part.plan.now One) l h)
    → IsSharedBy part.plan.now part.i part.source part.total.now part.mean
shared {part = part} is law =
    let v = some_unit part.plan.now.units part.i is.unit.unit in record {
      joints = is.source.gives;
      total = is.total.encloses;
      mean = law part.i v _ _ is.unit.unit (is.mean v).holds;
    }

-- within a budget, where it is within a width from those of what it is drawn from
within_budget : {B : ℕ} {part : Part B} (p : Fraction) (result : Option (Iv B)) (width : (mean cells total : ℕ) → ℕ)
    (most : ℕ) → IsPart part
    → IfSome result (λ r. DeclaresShare part.plan.now part.i p (r.lo over 2 ^ B) (r.hi over 2 ^ B))
    → IfSome result (λ r. (m w : ℕ) → part.mean.hi - part.mean.lo ≤ m → spread part.total.now ≤ w
    → r.hi - r.lo ≤ width m (length part.total.now) w)
    → width (mean_budget_of (2 ^ B) part.plan.now part.i) part.plan.now.cells (spread part.total.now) ≤ most
    → IfSome result (IsTailShareOf part.plan.now part.i p most)
within_budget {B} {part} p result width most is holds narrow within = if_some_two result _ _ _ (λ r held apart. record {
  holds = held;
  narrow =
      let wide : r.hi - r.lo ≤ width own part.plan.now.cells (spread part.total.now) =
      subst (λ n. r.hi - r.lo ≤ width own n (spread part.total.now)) is.total.cells
      (apart own (spread part.total.now) mean_narrow (omega arith)) in
      omega (arith, r.ordered, wide, within);
}) holds narrow
  where
    own : ℕ
    own = mean_budget_of (2 ^ B) part.plan.now part.i

    v : UnitOfPlan
    v = some_unit part.plan.now.units part.i is.unit.unit

    mean_narrow : part.mean.hi - part.mean.lo ≤ own
    mean_narrow = omega (
      arith,
      (is.mean v).narrow,
      get_or-map (unit_mean_budget (2 ^ B) part.plan.now.cells) part.plan.now.units part.i v 0 is.unit.unit,
    )

-- ---- where the quantile is settled

-- independent units declare what their losses do
declared_alone : (plan : Plan) → plan.common ≡ None → declared plan ≡ partial_sums (aggregates_of plan)
declared_alone plan none = ap (λ c. declared_by c plan.units) none

share_rises : (p : Fraction) (m K j w x t : ℕ) → p <ℚ whole 1 → j ≤ x → w ≤ t
    → share_width p m K j w ≤ share_width p m K x t
share_rises p m K j w x t below of_joint of_total =
    let sums : m + j + 2 * K + K * (w + 2) + conditional_width K j w + 4
    ≤ m + x + 2 * K + K * (t + 2) + conditional_width K x t + 4 = omega (arith, mul-le-mul_left K of_total) in
    omega (arith, up_rises _ _ (p.den - p.num) (omega (arith, num_below p below)) (mul-le-mul_right p.den sums))

module _ {B : ℕ} {part : Part B} (is : IsPart part) (none : part.plan.now.common ≡ None) where
  encloses : GridEncloses part.total.now (total (aggregates_of part.plan.now))
  encloses = subst (λ (D : Quantity → Series). (x : ℕ) → x < length part.total.now
      → Holds (D (Point x)) (D One) (low_at part.total.now x over 2 ^ B) (high_at part.total.now x over 2 ^ B))
      (declared_alone part.plan.now none) is.total.encloses

  pub tail_share : (p : Fraction) (result : Option (Iv B))
      → IsSharedBy part.plan.now part.i part.source part.total.now part.mean → p <ℚ whole 1
      → ((us : List Loss) (j : ℕ) → AreDeclared us → GivesJoints part.source (partial_sums us) j
      → GridEncloses part.total.now (total us)
      → Holds (partial_sums us (Outcome j)) (partial_sums us One) (part.mean.lo over 2 ^ B) (part.mean.hi over 2 ^ B)
      → IfSome result (λ r. (q : ℕ) → IsQuantile (partial_sums us) q p
      → HoldsShare (partial_sums us) j p q (r.lo over 2 ^ B) (r.hi over 2 ^ B)))
      → IfSome result (λ r. (m w : ℕ) → part.mean.hi - part.mean.lo ≤ m → spread part.total.now ≤ w
      → r.hi - r.lo ≤ share_width p m (length part.total.now) (joint_width part.source) w)
      → IfSome result (IsTailShareOf part.plan.now part.i p (cotail_budget (2 ^ B) part.plan.now part.i p))
  tail_share p result from below holds width =
      let alone = declared_alone part.plan.now none in
      within_budget p result (λ m K w. share_width p m K (joint_width part.source) w) _ is
      (subst (λ (D : Quantity → Series). IfSome result (λ r. (q : ℕ) → IsQuantile D q p
      → HoldsShare D part.i p q (r.lo over 2 ^ B) (r.hi over 2 ^ B))) (sym alone)
      (holds (aggregates_of part.plan.now) part.i (plan_declared part.plan.now is.unit.at.valid)
      (subst (λ (D : Quantity → Series). GivesJoints part.source D part.i) alone from.joints) encloses
      (subst (λ (D : Quantity → Series). Holds (D (Outcome part.i)) (D One) (part.mean.lo over 2 ^ B)
      (part.mean.hi over 2 ^ B)) alone from.mean))) width
      (share_rises p _ part.plan.now.cells _ _ _ _ below is.source.narrow is.total.narrow)

  pub share_absent : (p : Fraction) (result : Option (Iv B))
      → ((us : List Loss) (y : ℕ) → AreDeclared us → GridEncloses part.total.now (total us) → IsNone result
      → IsFirstFound (low_cdf (2 ^ B) (low_at part.total.now)) p (length part.total.now) (Some y)
      → MayBeAbsent (partial_sums us) (length part.total.now) p (spread part.total.now over 2 ^ B))
      → (x : ℕ) → IsNone result → IsFirstFound (low_cdf (2 ^ B) (low_at part.total.now)) p part.plan.now.cells (Some x)
      → MayBeAbsent (declared part.plan.now) part.plan.now.cells p (total_error (2 ^ B) part.plan.now)
  share_absent p result absent x missing found =
      let plan = part.plan.now in
      absent_wider (length part.total.now) plan.cells p _ _ is.total.cells
      (over_le_over (spread part.total.now) (total_budget (2 ^ B) plan) (2 ^ B) (pow_pos B) is.total.narrow)
      (subst (λ (D : Quantity → Series). MayBeAbsent D (length part.total.now) p (spread part.total.now over 2 ^ B))
      (sym (declared_alone plan none)) (absent (aggregates_of plan) x
      (plan_declared plan is.unit.at.valid) encloses missing
      (subst (λ n. IsFirstFound (low_cdf (2 ^ B) (low_at part.total.now)) p n (Some x)) (sym is.total.cells) found)))
    where
      absent_wider : {D : Quantity → Series} (K L : ℕ) (p d e : Fraction) → K ≡ L → d ≤ℚ e → MayBeAbsent D K p d
          → MayBeAbsent D L p e
      absent_wider K L p d e same wider why = elim why [
        | inl near ↦ inl (record {
          x = near.x;
          inside = omega (arith, near.inside, same);
          at_most = at_most_wider _ _ _ _ near.at_most (plus_le_both p p d e (le_refl p) wider);
          at_least = at_least_wider _ _ _ _ near.at_least (sub_le_both p p e d (le_refl p) wider);
        })
        | inr rare ↦ inr (record {
          q = rare.q;
          inside = omega (arith, rare.inside, same);
          quantile = rare.quantile;
          rare = (rare.rare.0, lt_of_lt_of_le _ _ _ rare.rare.1 (plus_le_both _ _ d e (le_refl _) wider), rare.rare.2);
        })
      ]

-- where there is a share, the distribution reaches p inside the grid
pub share_reached : {B : ℕ} {plan : Plan} {g : List (Iv B)} {p : Fraction} {Else : Type 0} (result : Option (Iv B))
    → (IsNone result ↔ (IsPast g p ⊎ Else)) → IsValid plan → IsTotalOf plan g
    → IfSome result (λ r. IsAtLeast plan (at_the_end plan) p)
share_reached None none valid t = tt
share_reached {p = p} (Some r) none valid t = tail_reached p (λ past. let some = none.1 (inl past) in cc) valid t

-- ---- at every quantile

-- under a common factor the mean of a unit is exact but for its ends
shared_mean : (S : ℕ) {plan : Plan} {r : Fraction} (i : ℕ) (u : UnitOfPlan) → IsValid plan → plan.common ≡ Some r
    → i < length plan.units → unit_mean_budget S plan.cells (get_or plan.units i u) ≡ 1
shared_mean S {plan} {r} i u valid shape inside = ap (λ z. mean_after_zero z (up (declared_mean v))
    (none_budget S v.freq)
    (mean_width v.cede (claims_budget S (horizon v.cede plan.cells) v))) can.zero
    ∙ ap (λ c. mean_width c (claims_budget S (horizon v.cede plan.cells) v)) can.clause
  where
    v : UnitOfPlan
    v = get_or plan.units i u

    can : CanShare v
    can = (has_factor plan r (record { shape = shape; valid = valid })).can_share i u inside

undivided_most : (S : ℕ) {plan : Plan} (i : ℕ) (u : UnitOfPlan) → IsValid plan → i < length plan.units
    → mean_budget_of S plan i + 4 * joint_budget S plan i
    + 6 * (plan.cells * total_budget S plan) + 4 * plan.cells + 4 ≤ undivided_by plan.common S plan i
undivided_most S {plan} i u valid inside = by_factor plan.common refl
  where
    by_factor : (common : Option Fraction) → plan.common ≡ common
        → mean_budget_of S plan i + 4 * joint_budget S plan i + 6 * (plan.cells * total_budget S plan) + 4 * plan.cells
        + 4 ≤ undivided_by common S plan i
    by_factor None none = omega arith
    by_factor (Some r) shape =
        omega (
          arith,
          get_or-map (unit_mean_budget S plan.cells) plan.units i u 0 inside,
          shared_mean S i u valid shape inside,
        )

pub whole_share : {B : ℕ} {part : Part B} (p : Fraction) (result : Option (Iv B)) → IsPart part → p <ℚ whole 1
    → IfSome result (λ r. DeclaresShare part.plan.now part.i p (r.lo over 2 ^ B) (r.hi over 2 ^ B))
    → IfSome result (λ r. (m w : ℕ) → part.mean.hi - part.mean.lo ≤ m → spread part.total.now ≤ w
    → r.hi - r.lo ≤ whole_share_width p m (length part.total.now) (joint_width part.source) w)
    → IfSome result (IsTailShareOf part.plan.now part.i p (share_budget (2 ^ B) part.plan.now part.i p))
whole_share {B} {part} p result is below holds width =
    within_budget p result (λ m K w. whole_share_width p m K (joint_width part.source) w) _ is holds width (
    omega (arith, up_rises _ _ (p.den - p.num) (omega (arith, num_below p below)) (mul-le-mul_right p.den sums)))
  where
    most : ℕ
    most = undivided_by part.plan.now.common (2 ^ B) part.plan.now part.i

    sums : mean_budget_of (2 ^ B) part.plan.now part.i + 4 * joint_width part.source
        + 6 * (part.plan.now.cells * spread part.total.now) + 4 * part.plan.now.cells + 4 ≤ most
    sums = omega (
      arith,
      undivided_most (2 ^ B) part.i (some_unit part.plan.now.units part.i is.unit.unit) is.unit.at.valid is.unit.unit,
      is.source.narrow,
      mul-le-mul_left part.plan.now.cells is.total.narrow,
    )

-- ---- what is told

pub share_told : {B : ℕ} {plan : Plan} {i d most : ℕ} {p : Fraction} {share : Iv B} {row : Row}
    → IsTailShareOf plan i p most share → IsAtLeast plan (at_the_end plan) p → Prints (2 ^ B) share.lo share.hi d row
    → IsTailShare plan i p d (in_digits (2 ^ B) most d) row
share_told {B} {plan = plan} {i = i} {d = d} {most = most} {p = p} {share = share} {row = row} s reached printed =
    record {
      reached = reached;
      ends = are_ends B (DeclaresShare plan i p) share.lo share.hi d most row widens printed s.holds s.narrow;
    }
  where
    widens : Widens (DeclaresShare plan i p)
    widens l m h k low high holds = λ q is. record {
      at_most = λ u le part. at_most_wider _ _ _ _ ((holds q is).at_most u le part) high;
      at_least = λ u le part. at_least_wider _ _ _ _ ((holds q is).at_least u le part) low;
    }

-- ---- what is asked

pub joint_asked : {B : ℕ} {plan : Plan} (unit : List ℕ) {at i d : ℕ} {mean : Iv B} {row : Row}
    → i ≡ index_of unit plan.units → IsJointOf plan i at mean → Prints (2 ^ B) mean.lo mean.hi d row
    → IsAnswerTo (2 ^ B) plan d (asks.Joint unit at) row
unfolding ask_budget
joint_asked {B} {plan = plan} unit {at = at} {d = d} {mean = mean} {row = row} index joint printed =
    let there = rw index at joint in
    declared_ends B plan (Joint (index_of unit plan.units) at) mean.lo mean.hi d
    (joint_budget (2 ^ B) plan (index_of unit plan.units)) row printed there.holds there.narrow

pub share_asked : (S : ℕ) {plan : Plan} (unit : List ℕ) (at : ℕ) {i d : ℕ} {row : Row} → i ≡ index_of unit plan.units
    → IsShareOfUnit plan i at d (in_digits S (kappa_budget S plan i) d) row ⊎ IsTooRare plan at (total_error S plan) row
    → IsAnswerTo S plan d (asks.Kappa unit at) row
unfolding ask_budget
share_asked S unit at index told = rw (← index) told

pub tail_share_asked : (S : ℕ) {plan : Plan} (unit : List ℕ) {i d : ℕ} {p : Fraction} {row : Row}
    → i ≡ index_of unit plan.units
    → IsTailShare plan i p d (in_digits S (cotail_budget S plan i p) d) row
    ⊎ (IsBeyond plan p (total_error S plan) row ⊎ IsNoTailShare plan p (total_error S plan) row)
    → IsAnswerTo S plan d (asks.Cotail unit p) row
unfolding ask_budget
tail_share_asked S unit index told = rw (← index) told

pub whole_share_asked : (S : ℕ) {plan : Plan} (unit : List ℕ) {i d : ℕ} {p : Fraction} {row : Row}
    → i ≡ index_of unit plan.units
    → IsTailShare plan i p d (in_digits S (share_budget S plan i p) d) row ⊎ IsBeyond plan p (total_error S plan) row
    → IsAnswerTo S plan d (asks.Share unit p) row
unfolding ask_budget
whole_share_asked S unit index told = rw (← index) told
