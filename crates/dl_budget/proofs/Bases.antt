-- What a kind of count begins with: the spreads of the bases, which have room to grow.
use Rattle.dl_budget.proofs.Common.{ℕ, ◌≡◌, ◌+◌, ◌*◌, ◌/◌, ◌%◌, ◌^◌, ◌<◌, ◌≤◌, arith, sym, ap, ap₂, subst, refl, ◌∙◌, div_ceil, mul-le-mul, mul-le-mul_left, mul-le-mul_right, div-eq_of_lt, mod-eq_of_lt, le_of_mul-le-mul_right, pow-le-pow_right, inl, inr, eqb_tells, Fraction, whole, ◌over◌, ◌+ℚ◌, ◌*ℚ◌, ◌/ℚ◌, ◌<ℚ◌, ◌≤ℚ◌, over_self, over_add, over_mul, le_over, one_pos, one_times, times_comm, times_le_times, div_times, le_whole, whole_le, floor_div, up, rounded_spread, up_quotient, div_ceil_times, convolution_spread, IsPlanScale, IsSizeWithin, power_spread, IsShape, IsGammaOn, gamma_budget, geometric_spread, shape_spread, whole_part, whole_spread, most_claims_budget, most_operands, le-div, num_pos}
use Rattle.dl_exact.proofs.Laws.{le_trans}
use Rattle.dl_budget.proofs.SizeLaws.{size_least, within_step}

-- ---- Poisson counts

pub poisson_room : (K h : ℕ) → K ≤ 65536 → h ≤ 13 → 2 ^ h * rounded_spread K 0 (8 * K + 128) ≤ most_operands
unfolding rounded_spread
poisson_room K h few small =
    let power : 2 ^ h ≤ 2 ^ 13 = pow-le-pow_right {n = 2} (omega arith) {i = h} {j = 13} small in
    let base : 8 * K + 128 + 2 * K + 1 + 0 ≤ 655489 = omega arith in
    omega (arith, mul-le-mul power base)

-- ---- gamma counts

-- a base by whole numbers
pub base_parts : (a : ℕ) (beta : Fraction)
    → up (whole a *ℚ (whole 1 +ℚ beta)) ≡ div_ceil (a * (beta.den + beta.num)) beta.den
base_parts a beta =
    let more : whole 1 +ℚ beta ≡ (1 * beta.den + beta.num * 1) over (1 * beta.den) =
    ap (λ t. whole 1 +ℚ t) (sym (over_self beta)) ∙ over_add 1 1 beta.num beta.den one_pos beta.positive in
    let all : whole a *ℚ (whole 1 +ℚ beta) ≡ (a * (1 * beta.den + beta.num * 1)) over (1 * (1 * beta.den)) =
    ap (λ t. whole a *ℚ t) more
    ∙ over_mul a 1 (1 * beta.den + beta.num * 1) (1 * beta.den) one_pos (omega (arith, beta.positive)) in
    ap up all ∙ up_quotient _ _ (omega (arith, beta.positive)) ∙ ap₂ div_ceil (top beta.den beta.num) (bottom beta.den)
  where
    top : (d n : ℕ) → a * (1 * d + n * 1) ≡ a * (d + n)
    top d n = omega arith

    bottom : (d : ℕ) → 1 * (1 * d) ≡ d
    bottom d = omega arith

-- k of such bases, of a mean n / d
parts_within : (a most k d n X : ℕ) → 0 < d → k * n ≤ most * d → X * d ≤ a * (d + n) + d → k * X ≤ a * (k + most) + k
parts_within a most k d n X pos within h =
    let means : a * (k * n) ≤ a * (most * d) = mul-le-mul_left a within in
    let all : k * (X * d) ≤ k * (a * (d + n) + d) = mul-le-mul_left k h in
    le_of_mul-le-mul_right {k = d} (omega (arith, all, means)) pos

-- where k times beta is at most `most`
pub base_within : (a most k : ℕ) (beta : Fraction) → whole k *ℚ beta ≤ℚ whole most
    → k * up (whole a *ℚ (whole 1 +ℚ beta)) ≤ a * (k + most) + k
base_within a most k beta h =
    let P : ℕ = a * (beta.den + beta.num) in
    let parts : whole k *ℚ beta ≡ (k * beta.num) over (1 * beta.den) =
    ap (λ t. whole k *ℚ t) (sym (over_self beta)) ∙ over_mul k 1 beta.num beta.den one_pos beta.positive in
    let cross : k * beta.num * 1 ≤ most * (1 * beta.den) =
    le_over (k * beta.num) (1 * beta.den) most 1 (omega (arith, beta.positive)) one_pos
    (subst (λ x. x ≤ℚ whole most) parts h) in
    rw (base_parts a beta) (parts_within a most k beta.den beta.num (div_ceil P beta.den) beta.positive
    (omega (arith, cross)) (omega (arith, (div_ceil_times P beta.den beta.positive).1)))

-- ---- the parts of a shape

whole_below : (r : Fraction) → whole (whole_part r) ≤ℚ r
whole_below r = subst (λ x. whole (whole_part r) ≤ℚ x) (over_self r) (floor_div r.num r.den r.positive).below

-- at most 10,000
pub whole_few : (r : Fraction) → IsShape r → whole_part r ≤ 10000
whole_few r shape = le_whole _ _ (le_trans _ _ _ (whole_below r) shape.few)

pub whole_some : (r : Fraction) → r.den ≤ r.num → 1 ≤ whole_part r
whole_some r least = le-div 1 r.num r.den r.positive (omega (arith, least))

-- the mean of the geometric counts together is at most that of all
pub powers_within : (K : ℕ) (shape mean : Fraction) → IsGammaOn K shape mean
    → whole (whole_part shape) *ℚ (mean /ℚ shape) ≤ℚ whole 4096
powers_within K shape mean on =
    le_trans _ _ _ (times_le_times _ _ (mean /ℚ shape) (whole_below shape))
    (subst (λ x. x ≤ℚ whole 4096)
    (sym (times_comm shape (mean /ℚ shape) ∙ div_times mean shape on.of_shape.above)) on.within)

-- and so is that of one, where there is one
pub one_within : (K : ℕ) (shape mean : Fraction) → IsGammaOn K shape mean → 1 ≤ whole_part shape
    → whole 1 *ℚ (mean /ℚ shape) ≤ℚ whole 4096
one_within K shape mean on some =
    le_trans _ _ _ (times_le_times _ _ (mean /ℚ shape) (whole_le 1 (whole_part shape) some))
    (powers_within K shape mean on)

-- ---- room

-- the power of the base of shape 1, and the base of the rest beside it, have room
pub whole_room : (K : ℕ) (shape mean : Fraction) → IsGammaOn K shape mean
    → whole_part shape * rounded_spread K 0 (geometric_spread K (mean /ℚ shape)) ≤ 5 * 2 ^ 30
unfolding rounded_spread
whole_room K shape mean on =
    let bases = base_within (4 * K + 1) 4096 (whole_part shape) (mean /ℚ shape) (powers_within K shape mean on) in
    let cells : 4 * K + 1 ≤ 262145 = omega (arith, on.few) in
    let counts : whole_part shape + 4096 ≤ 14096 = omega (arith, whole_few shape on.of_shape) in
    let rounding : 2 * K + 1 ≤ 131073 = omega (arith, on.few) in
    omega (arith, bases, mul-le-mul cells counts, mul-le-mul (whole_few shape on.of_shape) rounding)

pub rest_room : (K : ℕ) (shape mean : Fraction) → IsGammaOn K shape mean → 1 ≤ whole_part shape
    → rounded_spread K 0 (shape_spread K (mean /ℚ shape)) ≤ 2 * 2 ^ 30
unfolding rounded_spread
rest_room K shape mean on some =
    let base = base_within (6 * K + 2) 4096 1 (mean /ℚ shape) (one_within K shape mean on some) in
    let cells : 6 * K + 2 ≤ 393218 = omega (arith, on.few) in
    omega (arith, base, mul-le-mul_right 4097 cells)

pub rest_few : (K : ℕ) (shape mean : Fraction) → IsGammaOn K shape mean → 1 ≤ whole_part shape
    → shape_spread K (mean /ℚ shape) ≤ 2 * 2 ^ 30
unfolding rounded_spread
rest_few K shape mean on some = omega (arith, rest_room K shape mean on some)

-- the base of a shape below 1, where the mean over the shape is at most 32,768
pub beta_room : (K : ℕ) (beta : Fraction) → K ≤ 65536 → beta ≤ℚ whole 32768 → shape_spread K beta ≤ most_claims_budget
beta_room K beta few within =
    let base = base_within (6 * K + 2) 32768 1 beta (subst (λ x. x ≤ℚ whole 32768) (sym (one_times beta)) within) in
    let cells : 6 * K + 2 ≤ 393218 = omega (arith, few) in
    omega (arith, base, mul-le-mul_right 32769 cells)

-- ---- the budget by the parts of the shape

pub budget_below : (S K : ℕ) (shape mean : Fraction) → whole 0 <ℚ shape → shape.num < shape.den
    → gamma_budget S K shape mean ≡ shape_spread K (mean /ℚ shape)
unfolding gamma_budget
budget_below S K shape mean above below = elim (eqb_tells (shape.num % shape.den) 0) [
  | inl none ↦ absurd (omega (arith, num_pos shape above, mod-eq_of_lt below, none.1))
  | inr rest ↦ rw rest.0 (rw (div-eq_of_lt below) refl)
]

pub budget_whole : (S K : ℕ) (shape mean : Fraction) → shape.num % shape.den ≡ 0
    → gamma_budget S K shape mean ≡ whole_spread S K shape (mean /ℚ shape)
unfolding gamma_budget
budget_whole S K shape mean none = rw none refl

pub budget_both : (S K : ℕ) (shape mean : Fraction) → 0 < shape.num % shape.den → 1 ≤ whole_part shape
    → gamma_budget S K shape mean
    ≡ convolution_spread S K (whole_spread S K shape (mean /ℚ shape)) (shape_spread K (mean /ℚ shape))
unfolding gamma_budget
budget_both S K shape mean rest some = elim (eqb_tells (shape.num % shape.den) 0) [
  | inl none ↦ absurd (omega (arith, none.1, rest))
  | inr other ↦ elim (eqb_tells (whole_part shape) 0) [
    | inl none ↦ absurd (omega (arith, none.1, some))
    | inr there ↦ rw (other.0, there.0) refl
  ]
]

-- ---- as it is read

-- a base of the mean over the shape
pub base_read : (a : ℕ) (shape mean beta : Fraction) (x : ℕ) → beta ≡ mean /ℚ shape
    → x ≡ up (whole a *ℚ (whole 1 +ℚ beta)) → x ≡ up (whole a *ℚ (whole 1 +ℚ mean /ℚ shape))
base_read a shape mean beta x same is = is ∙ ap (λ b. up (whole a *ℚ (whole 1 +ℚ b))) same

-- the power, from the parts of the shape
pub whole_read : (S K : ℕ) (shape mean beta : Fraction) (b n d x : ℕ) → beta ≡ mean /ℚ shape
    → b ≡ geometric_spread K beta → n ≡ shape.num → d ≡ shape.den → x ≡ power_spread S K b (n / d) → x ≡ whole_spread S K shape (mean /ℚ shape)
whole_read S K shape mean beta b n d x same base num den is =
    is ∙ ap₂ (power_spread S K) (base ∙ ap (geometric_spread K) same) (ap₂ (λ y z. y / z) num den)

-- the power and the base of the rest together
pub both_size : (B K : ℕ) (shape mean : Fraction) (x y z : ℕ) → IsPlanScale B → IsGammaOn K shape mean
    → 1 ≤ whole_part shape
    → IsSizeWithin (2 ^ B) (whole_part shape * rounded_spread K 0 (geometric_spread K (mean /ℚ shape)))
    (rounded_spread K 0 x)
    → y ≡ shape_spread K (mean /ℚ shape) → z ≡ convolution_spread (2 ^ B) K x y
    → IsSizeWithin (2 ^ B) (whole_part shape * rounded_spread K 0 (geometric_spread K (mean /ℚ shape))
    + rounded_spread K 0 (shape_spread K (mean /ℚ shape))) (rounded_spread K 0 z)
both_size B K shape mean x y z e on some size rest step =
    within_step B K 0 _ _ _ x y z e refl
    (omega (arith, whole_room K shape mean on, rest_room K shape mean on some))
    size (size_least (2 ^ B) _ _ (omega (arith, ap (rounded_spread K 0) rest))) (step ∙ omega arith)
