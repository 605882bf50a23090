-- What the sum over the amounts of one claim holds, where a grid encloses the raised unit.
use Rattle.dl_shares.proofs.Common.{subst₂, ℕ, ◌+ℚ◌, ◌≡◌, ◌∙◌, ◌*◌, ◌/◌, ◌<◌, ◌≤◌, ◌^◌, List, length, get_or, true, false, ap, ap₂, sym, subst, arith, mul-pos, Fraction, whole, ◌over◌, ◌*ℚ◌, ◌≤ℚ◌, ◌<ℚ◌, sum_pairs, le_refl, le_of_eq, zero_le, times_le_both, times_zero, over_mul, over_same, over_self, over_le, over_times, over_zero, severity_total, Sev, UnitOfPlan, greatest, weight_at, probability_of, expected_count, HasCommonFactor, raised, PoissonUnit, expected_claims, pooled_severity, common_sums, IsUnit, poisson_unit, poisson_units, IsRaised, Bool, div_ceil, pow_pos, mul-le-mul_right, fun_ext, times_left_comm, sum_pairs_same, Iv, round_down, round_up, low_at, high_at, Series, AtMost, Holds, gamma_of, compound, GridEncloses, count_weights, compound_of, One, Joint, where_true, shares_severity, amounts_to, claims_mean, expected_units, are_severities, sum_pairs_over, scale_low, scale_high, joint_raised, is_unit}
use Rattle.dl_exact.proofs.Laws.{le_trans}
use Rattle.dl_shares.proofs.Tilted.{amounts_pairs}

-- ---- the sum over the amounts, in units of the scale

term : (a w T e S : ℕ) → 0 < T → 0 < S → whole a *ℚ w over T *ℚ e over S ≡ (a * w * e) over (T * S)
term a w T e S t s = ap (λ y. y *ℚ e over S) (over_times a w T t) ∙ over_mul (a * w) T e S t s

pub amounts_over : (x S : ℕ) (sev : Sev) (ends : ℕ → ℕ) → 0 < S
    → sum_pairs x (λ a k. whole a *ℚ probability_of sev a *ℚ ends k over S)
    ≡ amounts_to x ends sev.items over (sev.total * S)
amounts_over x S sev ends s =
    let t : 0 < sev.total = severity_total sev in
    sum_pairs_same x _ _ (λ a k e. term a (weight_at sev.items a) sev.total (ends k) S t s)
    ∙ sum_pairs_over x (sev.total * S) (λ a k. a * weight_at sev.items a * ends k) (mul-pos t s)
    ∙ ap (λ n. n over (sev.total * S)) (sym (amounts_pairs x ends sev.items))

-- the same by the expected claims above 0: n * (A / T) is n * (W / T) * (A / W)
by_positive : (A W T S : ℕ) (n : Fraction) → 0 < W → 0 < T → 0 < S
    → A over (W * S) *ℚ (n *ℚ W over T) ≡ n *ℚ A over (T * S)
by_positive A W T S n w t s =
    times_left_comm (A over (W * S)) n (W over T)
    ∙ ap (λ y. n *ℚ y) (over_mul A (W * S) W T (mul-pos w s) t
    ∙ over_same _ _ _ _ (mul-pos (mul-pos w s) t) (mul-pos t s) (turn A W T S))
  where
    turn : (A W T S : ℕ) → A * W * (T * S) ≡ A * (W * S * T)
    turn A W T S = omega arith

module _ (A W T S : ℕ) (n h : Fraction) (w : 0 < W) (t : 0 < T) (s : 0 < S) (is : h ≡ n *ℚ W over T) where
  scaled_is : A over (W * S) *ℚ h.num over h.den ≡ n *ℚ A over (T * S)
  scaled_is = ap (λ y. A over (W * S) *ℚ y) (over_self h ∙ is) ∙ by_positive A W T S n w t s

  pub end_below : (A / W * h.num / h.den) over S ≤ℚ n *ℚ A over (T * S)
  end_below = subst (λ y. (A / W * h.num / h.den) over S ≤ℚ y) scaled_is
      (scale_low S s (A / W) h.num h.den (A over (W * S)) h.positive
      (round_down A W S (A over (W * S)) w s (le_refl _)))

  pub end_above : n *ℚ A over (T * S) ≤ℚ div_ceil (div_ceil A W * h.num) h.den over S
  end_above = subst (λ y. y ≤ℚ div_ceil (div_ceil A W * h.num) h.den over S) scaled_is
      (scale_high S s (div_ceil A W) h.num h.den (A over (W * S)) h.positive
      (round_up A W S (A over (W * S)) w s (le_refl _)))

-- where no claim above 0 is expected there is none
pub end_none : (A W T S x : ℕ) (n h : Fraction) → 0 < T → 0 < S → A ≤ x * S * W → h ≡ n *ℚ W over T → h.num ≡ 0
    → n *ℚ A over (T * S) ≤ℚ 0 over S
end_none A W T S x n h t s top is none =
    let nothing : h ≡ whole 0 = sym (over_self h) ∙ ap (λ m. m over h.den) none ∙ over_zero h.den h.positive in
    let most : A over (T * S) ≤ℚ whole x *ℚ W over T =
    subst (λ y. A over (T * S) ≤ℚ y) (sym (over_times x W T t))
    (over_le A (T * S) (x * W) T (mul-pos t s) t (turn A W T S x top)) in
    le_trans _ _ _ (times_le_both n n _ _ (le_refl n) most)
    (le_of_eq _ _ (times_left_comm n (whole x) (W over T) ∙ ap (λ y. whole x *ℚ y) (sym is ∙ nothing)
    ∙ times_zero (whole x) ∙ sym (over_zero S s)))
  where
    turn : (A W T S x : ℕ) → A ≤ x * S * W → A * T ≤ x * W * (T * S)
    turn A W T S x p = omega (arith, mul-le-mul_right T p)

-- ---- what is declared

pub where_le : (b : Bool) → where_true b (whole 1) ≤ℚ whole 1
where_le true = le_refl (whole 1)
where_le false = zero_le (whole 1)

-- at most x times what is at most the whole
pub at_most_whole : (Q P R : Series) (x : ℕ) → ((N : ℕ) → Q N ≤ℚ whole x *ℚ P N) → ((N : ℕ) → P N ≤ℚ R N)
    → AtMost Q R (whole x)
at_most_whole Q P R x q p N u b =
    le_trans _ _ _ (q N) (times_le_both _ _ _ _ (le_refl (whole x)) (le_trans _ _ _ (p N) (b N)))

module _ (units : List UnitOfPlan) (r : Fraction) (factor : HasCommonFactor r units) (made : UnitOfPlan)
    (is : IsRaised r units made) where
  abbrev us : List PoissonUnit
  us = poisson_units units

  some : whole 0 <ℚ expected_claims us
  some = subst (λ t. whole 0 <ℚ t) (sym (expected_units units)) factor.some

  abbrev M : ℕ
  M = greatest made.sev.items

  past : (a : ℕ) → M < a → pooled_severity us a ≡ whole 0
  past a far = sym (is.severity a) ∙ (shares_severity made.sev.items made.sev.total made.sev.weighted).past a far

  raised_family : compound_of made.freq made.sev
      ≡ compound (gamma_of (r +ℚ whole 1) (raised r (expected_claims us))) (pooled_severity us)
  raised_family = ap₂ compound
      (ap count_weights is.count
      ∙ ap (λ v. gamma_of (r +ℚ whole 1) (raised r v)) (sym (expected_units units)))
      (fun_ext is.severity)

  abbrev all : Series
  all = common_sums r us One

  module _ {B : ℕ} (grid : List (Iv B)) (encloses : GridEncloses grid (compound_of made.freq made.sev)) (i x : ℕ)
      (u : UnitOfPlan) (there : i < length units) (here : get_or units i u ≡ u) (inside : x < length grid) where
    abbrev S : ℕ
    S = 2 ^ B

    abbrev n : Fraction
    n = expected_count u.freq

    pub joint_exact : Holds (common_sums r us (Joint i x)) all
        (claims_mean u S x (low_at grid)) (claims_mean u S x (high_at grid))
    joint_exact =
        let family = subst (λ F. GridEncloses grid F) raised_family encloses in
        let s = pow_pos B in
        let told = joint_raised r factor.shape.above us some (are_severities units) M past i (poisson_unit u) (subst (λ w. IsUnit us i (poisson_unit w)) here (is_unit units i u there)) x
        (λ k. low_at grid k over S) (λ k. high_at grid k over S) (λ k near. family k (omega arith)) in
        subst₂ (λ a b. Holds (common_sums r us (Joint i x)) all a b)
        (ap (λ y. n *ℚ y) (amounts_over x S u.sev (low_at grid) s))
        (ap (λ y. n *ℚ y) (amounts_over x S u.sev (high_at grid) s)) told
