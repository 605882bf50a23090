-- The ends after the change and those that the law of a changed probability of no claim speaks of. S units make 1.
use Rattle.dl_outcomes.proofs.Common.{ℕ, zero, suc, ◌≡◌, ◌-◌, ◌*◌, ◌/◌, ◌<◌, ◌≤◌, arith, refl, sym, ap, ap₂, subst, subst₂, ◌∙◌, nat_eq, div_ceil, mul-pos, Fraction, whole, ◌over◌, ◌+ℚ◌, ◌-ℚ◌, ◌*ℚ◌, ◌/ℚ◌, ◌≤ℚ◌, ◌<ℚ◌, count_below, sum_to, one_pos, times_comm, one_times, le_trans, le_of_eq, le_plus, zero_le, over_self, over_same, over_div, le_over, over_minus, over_one, over_pos, over_zero, to_over, add_low, add_high, scale_low, scale_high, div_low, div_high, enclose_low, enclose_high, all_at_zero, where_true, changed_end, off, on, sub_zero, low_changed, high_changed, sum_to_le}

-- what stands at the outcome 0 alone, in units
pub at_zero_is : (d e y : ℕ) → 0 < d → where_true (nat_eq y 0) (e over d) ≡ all_at_zero e y over d
unfolding all_at_zero
at_zero_is d e zero pos = on 0 0 (e over d) refl
at_zero_is d e (suc y) pos = off (suc y) 0 (e over d) (omega arith) ∙ sym (over_zero d pos)

-- what p leaves of 1
pub rest_of : (p : Fraction) → (p.den - p.num) over p.den ≡ whole 1 -ℚ p
rest_of p = over_minus p.den p.num p.den p.positive ∙ ap₂ (λ s t. s -ℚ t) (over_one p.den p.positive) (over_self p)

-- what a number of units leaves of 1
pub rest_units : (S n : ℕ) → 0 < S → (S - n) over S ≡ whole 1 -ℚ n over S
rest_units S n pos = over_minus S n S pos ∙ ap (λ t. t -ℚ n over S) (over_one S pos)

pub rest_positive : (S n : ℕ) → n < S → whole 0 <ℚ whole 1 -ℚ n over S
rest_positive S n h = subst (λ t. whole 0 <ℚ t) (rest_units S n (omega arith))
    (over_pos (S - n) S (omega arith) (omega arith))

-- ---- one outcome

module _ (S nl nh : ℕ) (p : Fraction) (pos : 0 < S) (order : nl ≤ nh) (below : nh < S) where
  -- what is left after `none` is taken off
  taken_off : (e n y : ℕ) → (e - all_at_zero n y) over S ≡ e over S -ℚ where_true (nat_eq y 0) (n over S)
  taken_off e n y = over_minus e (all_at_zero n y) S pos ∙ ap (λ t. e over S -ℚ t) (sym (at_zero_is S n y pos))

  p_low : (y : ℕ) → all_at_zero (S * p.num / p.den) y over S ≤ℚ where_true (nat_eq y 0) p
  unfolding all_at_zero
  p_low zero = subst (λ t. (S * p.num / p.den) over S ≤ℚ t) (over_self p ∙ sym (on 0 0 p refl))
      (enclose_low S pos p.num p.den p.positive)
  p_low (suc y) = subst (λ t. t ≤ℚ where_true (nat_eq (suc y) 0) p) (sym (over_zero S pos)) (zero_le _)

  p_high : (y : ℕ) → where_true (nat_eq y 0) p ≤ℚ all_at_zero (div_ceil (S * p.num) p.den) y over S
  unfolding all_at_zero
  p_high zero = subst (λ t. t ≤ℚ div_ceil (S * p.num) p.den over S) (over_self p ∙ sym (on 0 0 p refl))
      (enclose_high S pos p.num p.den p.positive)
  p_high (suc y) = le_of_eq _ _ (off (suc y) 0 p (omega arith) ∙ sym (over_zero S pos))

  turned : (x : Fraction) → x *ℚ (p.den - p.num) over p.den ≡ (whole 1 -ℚ p) *ℚ x
  turned x = ap (λ t. x *ℚ t) (rest_of p) ∙ times_comm x (whole 1 -ℚ p)

  pub low_is_below : (y l : ℕ)
      → low_changed S nl nh p y l over S ≤ℚ changed_end p y (l over S) (nh over S) (nl over S)
  unfolding low_changed
  low_is_below y l =
      let left = l - all_at_zero nh y in
      let x = l over S -ℚ where_true (nat_eq y 0) (nh over S) in
      let quotient = div_low S pos left (S - nl) x (whole 1 -ℚ nl over S) (omega arith)
      (rest_positive S nl (omega arith)) (le_of_eq _ _ (taken_off l nh y)) (le_of_eq _ _ (sym (rest_units S nl pos))) in
      let part = scale_low S pos (left * S / (S - nl)) (p.den - p.num) p.den _ p.positive quotient in
      add_low S pos _ _ _ _ (subst (λ t. (left * S / (S - nl) * (p.den - p.num) / p.den) over S ≤ℚ t) (turned _) part)
      (p_low y)

  pub high_is_above : (y h : ℕ)
      → changed_end p y (h over S) (nl over S) (nh over S) ≤ℚ high_changed S nl nh p y h over S
  unfolding high_changed
  high_is_above y h =
      let left = h - all_at_zero nl y in
      let x = h over S -ℚ where_true (nat_eq y 0) (nl over S) in
      let quotient = div_high S pos left (S - nh) x (whole 1 -ℚ nh over S) (omega arith)
      (le_of_eq _ _ (sym (taken_off h nl y))) (le_of_eq _ _ (rest_units S nh pos)) in
      let part = scale_high S pos (div_ceil (left * S) (S - nh)) (p.den - p.num) p.den _ p.positive quotient in
      add_high S pos _ _ _ _
      (subst (λ t. t ≤ℚ div_ceil (div_ceil (left * S) (S - nh) * (p.den - p.num)) p.den over S) (turned _) part)
      (p_high y)

  -- with p = 0 the end is the quotient alone
  pub quotient_is_below : (y l : ℕ)
      → (l - all_at_zero nh y) over (S - nl) ≤ℚ changed_end (whole 0) y (l over S) (nh over S) (nl over S)
  quotient_is_below y l =
      let q : Fraction = (l over S -ℚ where_true (nat_eq y 0) (nh over S)) /ℚ (whole 1 -ℚ nl over S) in
      let none : Fraction = where_true (nat_eq y 0) (whole 0) in
      let units : (l - all_at_zero nh y) over (S - nl) ≡ q =
      over_same _ _ _ _ (omega arith) (mul-pos pos (omega arith)) (omega arith)
      ∙ sym (over_div (l - all_at_zero nh y) S (S - nl) S pos pos (omega arith))
      ∙ ap₂ (λ s t. s /ℚ t) (taken_off l nh y) (rest_units S nl pos) in
      subst₂ (λ s t. s ≤ℚ t) (sym units)
      (ap (λ t. t +ℚ none) (sym (one_times q) ∙ ap (λ t. t *ℚ q) (sym (sub_zero (whole 1)))))
      (le_plus q none)

-- ---- the low ends together

-- numbers of units that are no more than parts of 1
pub units_fit : (k T : ℕ) (e : ℕ → ℕ) (f : ℕ → Fraction) → 0 < T → ((y : ℕ) → y ≤ k → e y over T ≤ℚ f y)
    → sum_to k f ≤ℚ whole 1 → count_below (suc k) e ≤ T
units_fit k T e f pos each all =
    let sum : count_below (suc k) e over T ≤ℚ whole 1 = subst (λ t. t ≤ℚ whole 1) (to_over k T e pos)
    (le_trans _ _ _ (sum_to_le k (λ y. e y over T) f each) all) in
    omega (arith, le_over (count_below (suc k) e) T 1 1 pos one_pos sum)
