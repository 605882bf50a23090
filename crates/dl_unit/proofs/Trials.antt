-- What one trial is worth, from the grid of one claim: its mass, its spread, and what it encloses.
use Rattle.dl_unit.proofs.Common.{ℕ, zero, suc, ◌≡◌, ◌+◌, ◌-◌, ◌*◌, ◌/◌, ◌<◌, ◌≤◌, arith, inl, inr, sym, ap, subst, ◌∙◌, min, div_ceil, cases_lt, Fraction, ◌over◌, ◌+ℚ◌, ◌*ℚ◌, div_ceil_least, over_zero, all_at_zero, count_below, below_nothing, below_le, below_plus, below_constant, cell, fixed, binomial, IsWithinOne, IsSeverity, compound, trial, compound_proper, low_trial, high_trial, mul-le-mul_left, mul-le-mul_right, div-mul-le_self, le_of_mul-le-mul_right, add-sub_of_le, ◌≤ℚ◌, le_trans, le_of_eq, zero_le, times_one, times_zero, plus_comm, times_comm, over_one, below_times, below_first, at_zero, Encloses, one_trial_cell, finite_encloses, severity_between, add_low, add_high, scale_low, scale_high, enclose_low, enclose_high, item_le_sum}

-- ---- mass

pub zero_below : (n r : ℕ) → count_below n (all_at_zero r) ≤ r
unfolding all_at_zero
zero_below zero r = omega (arith, below_nothing (all_at_zero r))
zero_below (suc n) r = omega (arith, below_first n (all_at_zero r), below_constant n 0)

pub trial_mass : (S n : ℕ) (q : Fraction) (lo : ℕ → ℕ) → q.num ≤ q.den → count_below n lo ≤ S
    → count_below n (low_trial S q lo) ≤ S
trial_mass S n q lo within mass =
    let a : ℕ = q.num in
    let b : ℕ = q.den in
    let r : ℕ = S * (b - a) / b in
    let split = below_plus n (λ y. lo y * a / b) (all_at_zero r) in
    let back = below_times n b (λ y. lo y * a / b) in
    let each = below_le n (λ y. lo y * a / b * b) (λ y. lo y * a) (λ y h. div-mul-le_self (lo y * a) b) in
    let times = below_times n a lo in
    let most : count_below n lo * a ≤ S * a = mul-le-mul_right a mass in
    let rest : r * b ≤ S * (b - a) = div-mul-le_self (S * (b - a)) b in
    let whole_units : S * a + S * (b - a) ≡ S * b = omega (arith, ap (λ t. S * t) (add-sub_of_le within)) in
    let room : count_below n (λ y. lo y * a / b) + r ≤ S =
    le_of_mul-le-mul_right {k = b} (omega (arith, back, each, times, most, rest, whole_units)) q.positive in
    omega (arith, split, room, zero_below n r)

-- ---- spread

-- the ends of a part of a number: rounding takes them one unit further apart, where there is anything
part_apart : (l d a b : ℕ) → 0 < b → a ≤ b → div_ceil ((l + d) * a) b ≤ l * a / b + d + min (l + d) 1
part_apart l d a b pos within = elim (cases_lt 0 (l + d)) [
  | inl some ↦
      let floor : l * a ≤ l * a / b * b + b = omega (arith, pos) in
      let grown : d * a ≤ d * b = mul-le-mul_left d within in
      omega (arith, div_ceil_least ((l + d) * a) b (l * a / b + d + 1) pos (omega (arith, floor, grown)), some)
  | inr none ↦
      let nothing : l + d ≡ 0 = omega (arith, none) in
      omega (arith, div_ceil_least ((l + d) * a) b 0 pos (omega (arith, ap (λ t. t * a) nothing)))
]

rest_apart : (n b y : ℕ) → 0 < b → all_at_zero (div_ceil n b) y ≤ all_at_zero (n / b) y + all_at_zero 1 y
unfolding all_at_zero
rest_apart n b zero pos = div_ceil_least n b (n / b + 1) pos (omega (arith, pos))
rest_apart n b (suc y) pos = omega arith

pub trial_width : (S : ℕ) (q : Fraction) (lo hi : ℕ → ℕ) (y : ℕ) → q.num ≤ q.den → lo y ≤ hi y
    → high_trial S q hi y - low_trial S q lo y ≤ (hi y - lo y) + min (hi y) 1 + all_at_zero 1 y
trial_width S q lo hi y within order =
    let d : ℕ = hi y - lo y in
    let e : lo y + d ≡ hi y = omega (arith, order) in
    let part = rw e at (part_apart (lo y) d q.num q.den q.positive within) in
    omega (arith, part, rest_apart (S * (q.den - q.num)) q.den y q.positive)

-- ---- enclosure

least_above : (S n : ℕ) (x : Fraction) → x ≤ℚ S over S → x ≤ℚ n over S → x ≤ℚ min S n over S
least_above S n x top high = elim (cases_lt S n) [
  | inl less ↦ subst (λ t. x ≤ℚ t over S) (omega (arith, less)) top
  | inr more ↦ subst (λ t. x ≤ℚ t over S) (omega (arith, more)) high
]

rest_low : (S n b y : ℕ) → 0 < S → 0 < b → all_at_zero (S * n / b) y over S ≤ℚ n over b *ℚ at_zero y
unfolding all_at_zero at_zero
rest_low S n b zero pos p = rw (times_one (n over b)) (enclose_low S pos n b p)
rest_low S n b (suc y) pos p = le_trans _ _ _ (le_of_eq _ _ (over_zero S pos)) (zero_le _)

rest_high : (S n b y : ℕ) → 0 < S → 0 < b → n over b *ℚ at_zero y ≤ℚ all_at_zero (div_ceil (S * n) b) y over S
unfolding all_at_zero at_zero
rest_high S n b zero pos p = rw (times_one (n over b)) (enclose_high S pos n b p)
rest_high S n b (suc y) pos p = le_trans _ _ _ (le_of_eq _ _ (times_zero (n over b))) (zero_le _)

-- the cell y of one trial in the order of its ends
trial_cell : (f : ℕ → Fraction) (a b y : ℕ) → 0 < b → cell (binomial 1 a b) f y 1
    ≡ f y *ℚ a over b +ℚ (b - a) over b *ℚ at_zero y
trial_cell f a b y pos = one_trial_cell f a b y pos ∙ plus_comm _ _
    ∙ ap (λ t. t +ℚ (b - a) over b *ℚ at_zero y) (times_comm _ _)

pub trial_encloses : (S K : ℕ) (q : Fraction) (lo hi : ℕ → ℕ) (f : ℕ → Fraction) → 0 < S → q.num ≤ q.den → IsWithinOne f
    → Encloses S K lo hi (compound (fixed 1) f) → Encloses S K (low_trial S q lo) (high_trial S q hi)
    (compound (binomial 1 q.num q.den) f)
trial_encloses S K q lo hi f pos within proper claim =
    finite_encloses (binomial 1 a b) f 1 all.add_up (λ n far. all.past n far) S K (low_trial S q lo) (high_trial S q hi)
    (λ y h. rw (trial_cell f a b y q.positive)
    (add_low S pos _ _ _ _ (scale_low S pos (lo y) a b (f y) q.positive (severity_between S K lo hi f claim y h).0)
    (rest_low S (b - a) b y pos q.positive)))
    (λ y h. least_above S _ _ (top y)
    (rw (trial_cell f a b y q.positive)
    (add_high S pos _ _ _ _ (scale_high S pos (hi y) a b (f y) q.positive (severity_between S K lo hi f claim y h).1)
    (rest_high S (b - a) b y pos q.positive))))
  where
    a : ℕ
    a = q.num

    b : ℕ
    b = q.den

    all : IsSeverity (binomial 1 a b) 1
    all = trial a b q.positive within

    top : (y : ℕ) → cell (binomial 1 a b) f y 1 ≤ℚ S over S
    top y = le_trans _ _ _ (item_le_sum y (λ i. cell (binomial 1 a b) f i 1))
        (le_trans _ _ _ ((compound_proper (binomial 1 a b) f proper).within y 1)
        (le_of_eq _ _ (all.add_up ∙ sym (over_one S pos))))
