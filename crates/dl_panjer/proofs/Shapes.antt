-- The recursion of a gamma count of a shape below 1.
use Rattle.dl_panjer.proofs.Common.{ℕ, zero, suc, ◌≡◌, ◌+◌, ◌-◌, ◌*◌, ◌/◌, ◌^◌, ◌<◌, ◌≤◌, true, false, inl, inr, cases_lt, List, arith, refl, sym, ap, ap₂, ◌∙◌, mul-pos, mul-le-mul, mul-le-mul_right, zero-lt-suc, lt-div-mul-add, div_ceil, div_ceil_least, min, Fraction, ◌over◌, ◌+ℚ◌, ◌*ℚ◌, ◌/ℚ◌, whole, over_self, over_add, over_mul, over_same, over_le, one_pos, ring, whole_pos, lt_of_lt_of_le, le_plus, times_cancel, div_times, ◌<ℚ◌, min-eq_right, times_comm, from_before, before_in_whole, sum_pairs_same, sum_pairs_times, count_below, below_none, below_pairs, below_plus, below_same, below_times, Rate, IsGridSize, mass_fits, Item, weight_at, weight_sum, IsWeighted, total_pos, coefficient, next_sum, Follows, FollowsOutward, div-le_of_le-mul, div_ceil_times, nothing_times, times_nothing, times_le_cancel, whole_times, sum_pairs_plus, floor_le_ceiling, low_of_shape, high_of_shape, low_next_of_shape, high_next_of_shape}
use Rattle.std.proofs.Common.{mul-le-mul_left, le_of_mul-le-mul_right, div-mul-le_self}
use Rattle.dl_panjer.proofs.ItemSums.{next_sum_rises, next_sum_same}
use Rattle.dl_panjer.proofs.Steps.{next_sum_within}
use Rattle.dl_panjer.proofs.Outward.{sum_of_amounts, sum_of_weights}
unfoldable use Rattle.dl_panjer.proofs.Spreads.{AreWidths}
use Rattle.dl_panjer.proofs.Spreads.{next_sum_apart, step_width}

-- the sum of what the cells before count for by their numbers
abbrev pub by_number : List Item → (ℕ → ℕ) → ℕ → ℕ
by_number items ends s = next_sum (coefficient false items) (λ k. k * ends k) s

-- the number of a cell, times what all before it count for, is what they do by their numbers and what amounts do
pub numbers_and_amounts : (items : List Item) (ends : ℕ → ℕ) (s : ℕ)
    → suc s * next_sum (coefficient false items) ends s ≡ by_number items ends s + next_sum (coefficient true items) ends s
numbers_and_amounts items ends s =
    let w : ℕ → ℕ = λ i. weight_at items (suc i) in
    let all : count_below (suc s) (λ i. w i * ends (s - i)) ≡ next_sum (coefficient false items) ends s =
    below_pairs s (λ i k. w i * ends k) in
    omega (
      arith,
      ap (λ t. t * suc s) all,
      below_times (suc s) (suc s) (λ i. w i * ends (s - i)),
      below_same (suc s) (λ i. w i * ends (s - i) * suc s)
          (λ i. w i * ((s - i) * ends (s - i)) + suc i * w i * ends (s - i))
          (λ i inside. parts (w i) (ends (s - i)) (s - i) i s (omega (arith, inside))),
      below_plus (suc s) (λ i. w i * ((s - i) * ends (s - i))) (λ i. suc i * w i * ends (s - i)),
      below_pairs s (λ i k. w i * (k * ends k)),
      below_pairs s (λ i k. suc i * w i * ends k),
    )
  where
    parts : (w e k i s : ℕ) → k + i ≡ s → w * e * suc s ≡ w * (k * e) + suc i * w * e
    parts w e k i s h = rw (← h) (omega arith)

-- ---- what one end's sums fit in: W counts all n cells before, and Y the amounts
module _ {B T n : ℕ} (items : List Item) (weighted : IsWeighted items T) (size : IsGridSize B n) (ends : ℕ → ℕ)
    (bound : (k : ℕ) → ends k ≤ 2 ^ B) (W Y : ℕ) (w : W ≡ next_sum (coefficient false items) ends (n - 1))
    (y : Y ≡ next_sum (coefficient true items) ends (n - 1)) where
  split : n * W ≡ by_number items ends (n - 1) + Y
  split =
      let e : suc (n - 1) ≡ n = omega (arith, size.some) in
      rw (w, y) (ap (λ t. t * next_sum (coefficient false items) ends (n - 1)) (sym e)
      ∙ numbers_and_amounts items ends (n - 1))

  pub amounts_below : Y ≤ n * W
  amounts_below = omega (arith, split)

  pub numbers_are : n * W - Y ≡ by_number items ends (n - 1)
  numbers_are = omega (arith, split)

  most : n * W ≤ 2 ^ 70 * T
  most =
      let each : W ≤ 2 ^ B * T = rw w (next_sum_within false items T (2 ^ B) (n - 1) (total_pos items T weighted)
      weighted.sum ends bound) in
      omega (arith, mul-le-mul_left n each, mul-le-mul_right T (mass_fits size))

  pub all_fit : n * W < 2 ^ 128
  all_fit = omega (arith, most, weighted.within)

  down_small : (x : ℕ) → x ≤ n * W → x / T ≤ 2 ^ 70
  down_small x h = div-le_of_le-mul T (omega (arith, h, most))

  up_small : (x : ℕ) → x ≤ n * W → div_ceil x T ≤ 2 ^ 70
  up_small x h = div_ceil_least x T (2 ^ 70) (total_pos items T weighted) (omega (arith, h, most))

  pub numbers_small : (n * W - Y) / T ≤ 2 ^ 70
  numbers_small = down_small (n * W - Y) (omega arith)

  pub amounts_small : Y / T ≤ 2 ^ 70
  amounts_small = down_small Y amounts_below

  pub numbers_small_up : div_ceil (n * W - Y) T ≤ 2 ^ 70
  numbers_small_up = up_small (n * W - Y) (omega arith)

  pub amounts_small_up : div_ceil Y T ≤ 2 ^ 70
  amounts_small_up = up_small Y amounts_below

  pub low_is : (t : Fraction) → t.den * ((n * W - Y) / T) + t.num * (Y / T) ≡ low_of_shape items T t ends (n - 1)
  low_is t = ap₂ (λ a b. t.den * (a / T) + t.num * (b / T)) numbers_are y

  pub high_is : (t : Fraction) → t.den * div_ceil (n * W - Y) T + t.num * div_ceil Y T ≡ high_of_shape items T t ends (n - 1)
  high_is t = ap₂ (λ a b. t.den * div_ceil a T + t.num * div_ceil b T) numbers_are y

-- ---- one step, where all ends are at most S

-- low ends below high ends
pub shape_rises : (items : List Item) (T : ℕ) (t : Fraction) (lo hi : ℕ → ℕ) (s : ℕ) → 0 < T → ((k : ℕ) → lo k ≤ hi k)
    → low_of_shape items T t lo s ≤ high_of_shape items T t hi s
shape_rises items T t lo hi s pos order =
    let c : ℕ → ℕ = coefficient false items in
    let numbers : by_number items lo s / T ≤ div_ceil (by_number items hi s) T =
    floor_le_ceiling _ _ T T pos (omega arith)
    (next_sum_rises c (λ k. k * lo k) (λ k. k * hi k) s (λ k. mul-le-mul_left k (order k))) in
    let amounts : next_sum (coefficient true items) lo s / T ≤ div_ceil (next_sum (coefficient true items) hi s) T =
    floor_le_ceiling _ _ T T pos (omega arith) (next_sum_rises (coefficient true items) lo hi s order) in
    omega (arith, mul-le-mul_left t.den numbers, mul-le-mul_left t.num amounts)

module _ (items : List Item) (T S : ℕ) (t : Fraction) (s : ℕ) (pos : 0 < T) (sum : weight_sum items ≡ T)
    (below : t.num ≤ t.den) (ends : ℕ → ℕ) (bound : (k : ℕ) → ends k ≤ S) where
  both_within : by_number items ends s + next_sum (coefficient true items) ends s ≤ suc s * S * T
  both_within =
      let each : next_sum (coefficient false items) ends s ≤ S * T = next_sum_within false items T S s pos sum ends bound in
      omega (arith, numbers_and_amounts items ends s, mul-le-mul_left (suc s) each)

  low_shape_within : low_of_shape items T t ends s ≤ S * (t.den * suc s)
  low_shape_within =
      let X : ℕ = by_number items ends s in
      let Y : ℕ = next_sum (coefficient true items) ends s in
      let together : X / T + Y / T ≤ suc s * S =
      le_of_mul-le-mul_right {k = T} (omega (arith, both_within, div-mul-le_self X T, div-mul-le_self Y T)) pos in
      omega (arith, mul-le-mul_right (Y / T) below, mul-le-mul_left t.den together)

  pub low_shape_most : (r : Rate) → low_next_of_shape items T t r ends s ≤ S
  low_shape_most r =
      let x : ℕ = low_of_shape items T t ends s / (t.den * suc s) in
      let small : x ≤ S = div-le_of_le-mul (t.den * suc s) (omega (arith, low_shape_within)) in
      div-le_of_le-mul r.den (omega (arith, mul-le-mul small r.within))

  high_shape_within : high_of_shape items T t ends s ≤ 2 * S * (t.den * suc s)
  high_shape_within =
      let X : ℕ = by_number items ends s in
      let Y : ℕ = next_sum (coefficient true items) ends s in
      let numbers : div_ceil X T ≤ suc s * S = div_ceil_least X T (suc s * S) pos (omega (arith, both_within)) in
      let amounts : div_ceil Y T ≤ suc s * S = div_ceil_least Y T (suc s * S) pos (omega (arith, both_within)) in
      omega (
        arith,
        mul-le-mul_right (div_ceil Y T) below,
        mul-le-mul_left t.den numbers,
        mul-le-mul_left t.den amounts,
      )

  pub shape_fits : (num : ℕ) → S ≤ 2 ^ 56 → num < 2 ^ 64
      → div_ceil (high_of_shape items T t ends s) (t.den * suc s) * num < 2 ^ 128
  shape_fits num scale few =
      let x : ℕ = div_ceil (high_of_shape items T t ends s) (t.den * suc s) in
      let small : x ≤ 2 ^ 57 = div_ceil_least _ (t.den * suc s) (2 ^ 57) (mul-pos t.positive (zero-lt-suc s))
      (omega (arith, high_shape_within, mul-le-mul_right (t.den * suc s) scale)) in
      let least : num ≤ 2 ^ 64 = omega (arith, few) in
      let product : x * num ≤ 2 ^ 57 * 2 ^ 64 = mul-le-mul small least in
      omega (arith, product)

-- the ends of the next cell, in order
pub shape_order : (items : List Item) (T S : ℕ) (t : Fraction) (s : ℕ) → 0 < T → weight_sum items ≡ T → t.num ≤ t.den
    → (r : Rate) (lo hi : ℕ → ℕ) → ((k : ℕ) → lo k ≤ hi k) → ((k : ℕ) → lo k ≤ S)
    → low_next_of_shape items T t r lo s ≤ high_next_of_shape S items T t r hi s
shape_order items T S t s pos sum below r lo hi order bound =
    let parts : ℕ = t.den * suc s in
    let inner : low_of_shape items T t lo s / parts ≤ div_ceil (high_of_shape items T t hi s) parts =
    floor_le_ceiling _ _ parts parts (mul-pos t.positive (zero-lt-suc s)) (omega arith)
    (shape_rises items T t lo hi s pos order) in
    let outer : low_next_of_shape items T t r lo s
    ≤ div_ceil (div_ceil (high_of_shape items T t hi s) parts * r.num) r.den =
    floor_le_ceiling _ _ r.den r.den r.positive (omega arith) (mul-le-mul_right r.num inner) in
    omega (arith, low_shape_most items T S t s pos sum below lo bound r, outer)

-- ---- a step reads only the ends up to s

module _ (items : List Item) (T : ℕ) (t : Fraction) (r : Rate) (f g : ℕ → ℕ) (s : ℕ) (h : (k : ℕ) → k ≤ s → f k ≡ g k) where
  numbers_same : by_number items f s ≡ by_number items g s
  numbers_same = next_sum_same (coefficient false items) (λ k. k * f k) (λ k. k * g k) s (λ k b. ap (λ x. k * x) (h k b))

  amounts_same : next_sum (coefficient true items) f s ≡ next_sum (coefficient true items) g s
  amounts_same = next_sum_same (coefficient true items) f g s h

  pub low_shape_same : low_next_of_shape items T t r f s ≡ low_next_of_shape items T t r g s
  low_shape_same = ap₂ (λ a b. (t.den * (a / T) + t.num * (b / T)) / (t.den * suc s) * r.num / r.den)
      numbers_same amounts_same

  pub high_shape_same : (S : ℕ) → high_next_of_shape S items T t r f s ≡ high_next_of_shape S items T t r g s
  high_shape_same S = ap₂ (λ a b. min S (div_ceil (div_ceil (t.den * div_ceil a T + t.num * div_ceil b T)
      (t.den * suc s) * r.num) r.den)) numbers_same amounts_same

-- ---- widths

-- D is what d * P + e * Q is above d * p + e * q, where P and p are at most V + c apart, and Q and q at most W + 2, in
-- units of 1 / T
sums_apart : (d e T P p Q q V W c D : ℕ) → P * T ≤ p * T + V + c * T → Q * T ≤ q * T + W + 2 * T → e ≤ d
    → d * p + e * q + D ≡ d * P + e * Q → D * T ≤ d * (V + W) + (c * d + 2 * e) * T
sums_apart d e T P p Q q V W c D first second below split = omega (
  arith,
  ap (λ x. x * T) split,
  mul-le-mul_left d first,
  mul-le-mul_left e second,
  mul-le-mul_right W below,
)

-- a quotient rounded up is at most 2 more than one rounded down, beside what is added
rounded_apart : (X V T : ℕ) → 0 < T → div_ceil (X + V) T * T ≤ X / T * T + V + 2 * T
rounded_apart X V T pos = omega (arith, (div_ceil_times (X + V) T pos).1, lt-div-mul-add {a = X} {b = T} pos)

-- no cell before the first counts by its number
numbers_none : (items : List Item) (ends : ℕ → ℕ) → by_number items ends 0 ≡ 0
numbers_none items ends =
    let w : ℕ → ℕ = λ i. weight_at items (suc i) in
    sym (below_pairs 0 (λ i k. w i * (k * ends k)))
    ∙ below_none 1 (λ i. w i * ((0 - i) * ends (0 - i))) (λ i inside.
    let z : 0 - i ≡ 0 = omega arith in
    times_nothing (w i) _ (nothing_times (0 - i) (ends (0 - i)) z))

numbers_apart : (items : List Item) (lo w : ℕ → ℕ) (s T d e : ℕ) → 0 < T → e ≤ d
    → (c : ℕ) × (div_ceil (by_number items lo s + by_number items w s) T * T
    ≤ by_number items lo s / T * T + by_number items w s + c * T) × (c * d + 2 * e ≤ 2 * (d * suc s))
numbers_apart items lo w zero T d e pos below =
    let none : by_number items lo 0 + by_number items w 0 ≡ 0 =
    omega (arith, numbers_none items lo, numbers_none items w) in
    (0, rw none (omega (arith, mul-le-mul_right T (div_ceil_least 0 T 0 pos (omega arith)))), omega (arith, below))
numbers_apart items lo w (suc s) T d e pos below = (
  2,
  rounded_apart (by_number items lo (suc s)) (by_number items w (suc s)) T pos,
  omega (arith, below, mul-le-mul_left d (more s)),
)
  where
    more : (s : ℕ) → 2 ≤ suc (suc s)
    more s = omega arith

module _ (items : List Item) (T S : ℕ) (t : Fraction) (r : Rate) (lo hi w : ℕ → ℕ) (K : ℕ)
    (F : Follows (low_next_of_shape items T t r) (high_next_of_shape S items T t r) lo hi K) (pos : 0 < T)
    (below : t.num ≤ t.den) (apart : (k : ℕ) → hi k ≡ lo k + w k) where
  pub shape_widths : AreWidths items T r.num r.den 6 K w
  unfolding AreWidths
  shape_widths s inside =
      let j : ℕ = suc s in
      let d : ℕ = t.den in
      let e : ℕ = t.num in
      let n : ℕ = r.num in
      let q : ℕ = r.den in
      let A : ℕ = next_sum (λ i. weight_at items (suc i)) w s in
      let X : ℕ = by_number items lo s in
      let V : ℕ = by_number items w s in
      let Y : ℕ = next_sum (coefficient true items) lo s in
      let W : ℕ = next_sum (coefficient true items) w s in
      let L : ℕ = low_of_shape items T t lo s in
      let D : ℕ = high_of_shape items T t hi s - L in
      let numbers : by_number items hi s ≡ X + V =
      next_sum_apart (coefficient false items) (λ k. k * lo k) (λ k. k * hi k) (λ k. k * w k) s
      (λ k. omega (arith, ap (λ x. k * x) (apart k))) in
      let amounts : next_sum (coefficient true items) hi s ≡ Y + W =
      next_sum_apart (coefficient true items) lo hi w s apart in
      let order : L ≤ high_of_shape items T t hi s =
      shape_rises items T t lo hi s pos (λ k. omega (arith, apart k)) in
      let split : L + D ≡ high_of_shape items T t hi s = omega (arith, order) in
      let is : high_of_shape items T t hi s ≡ d * div_ceil (X + V) T + e * div_ceil (Y + W) T =
      ap₂ (λ a b. d * div_ceil a T + e * div_ceil b T) numbers amounts in
      let first = numbers_apart items lo w s T d e pos below in
      let wide : D * T ≤ d * (V + W) + (first.0 * d + 2 * e) * T =
      sums_apart d e T (div_ceil (X + V) T) (X / T) (div_ceil (Y + W) T) (Y / T) V W first.0 D first.1
      (rounded_apart Y W T pos) below (omega (arith, split, is)) in
      let all : j * A ≡ V + W = numbers_and_amounts items w s in
      let most : D * T ≤ d * j * A + 2 * (d * j) * T =
      omega (arith, wide, ap (λ x. d * x) all, mul-le-mul_right T first.2) in
      let dj : 0 < d * j = mul-pos t.positive (zero-lt-suc s) in
      let high : lo j + w j ≤ div_ceil (div_ceil (L + D) (d * j) * n) q =
      rw split (omega (arith, apart j, F.high s inside)) in
      let one = step_width L D (d * j) n q (lo j) (w j) dj r.positive r.within (F.low s inside) high in
      let scaled : w j * (q * (d * j)) * T ≤ (D * n + 4 * (q * (d * j))) * T = mul-le-mul_right T one in
      le_of_mul-le-mul_right {k = d * j} (omega (
        arith,
        scaled,
        mul-le-mul_right n most,
        mul-le-mul_left (2 * (d * j) * T) r.within,
      )) dj

-- ---- the rounded steps are outward

-- the recursion's part of cell s + 1, times its number
before_of_shape : (items : List Item) (T : ℕ) (t x : Fraction) (p q : ℕ) (g : ℕ → ℕ) (s : ℕ) → 0 < T → 0 < q → p over q ≡ x
    → from_before x (t *ℚ x) (λ j. weight_at items j over T) (λ k. whole (g k)) s *ℚ whole (suc s)
    ≡ (p * (t.den * by_number items g s + t.num * next_sum (coefficient true items) g s)) over (q * (T * t.den))
before_of_shape items T t x p q g s Tp qp is =
    let f : ℕ → Fraction = λ j. weight_at items j over T in
    let X : ℕ = by_number items g s in
    let Y : ℕ = next_sum (coefficient true items) g s in
    times_comm _ _ ∙ before_in_whole x (t *ℚ x) f (λ k. whole (g k)) s
    ∙ sum_pairs_same s _ (λ i k. x *ℚ (f (suc i) *ℚ whole (k * g k))
    +ℚ t *ℚ x *ℚ (whole (suc i) *ℚ f (suc i) *ℚ whole (g k))) (λ i k e.
    turn x t (whole k) (whole (suc i)) (f (suc i)) (whole (g k))
    ∙ ap (λ u. x *ℚ (f (suc i) *ℚ u) +ℚ t *ℚ x *ℚ (whole (suc i) *ℚ f (suc i) *ℚ whole (g k)))
    (sym (whole_times k (g k))))
    ∙ sum_pairs_plus s _ _
    ∙ ap₂ (λ u v. u +ℚ v) (sum_pairs_times s x _ ∙ ap (λ u. x *ℚ u)
    (sum_of_weights items T Tp f (λ y. refl) (λ k. k * g k) s))
    (sum_pairs_times s (t *ℚ x) _ ∙ ap (λ u. t *ℚ x *ℚ u) (sum_of_amounts items T Tp f (λ y. refl) g s))
    ∙ ap₂ (λ u v. u *ℚ X over T +ℚ v *ℚ u *ℚ Y over T) (sym is) (sym (over_self t))
    ∙ parts p q X T t.num t.den Y qp Tp t.positive
  where
    turn : (x t k j f g : Fraction)
        → (x *ℚ k +ℚ t *ℚ x *ℚ j) *ℚ f *ℚ g ≡ x *ℚ (f *ℚ (k *ℚ g)) +ℚ t *ℚ x *ℚ (j *ℚ f *ℚ g)
    turn x t k j f g = simp ring

    parts : (p q X T e d Y : ℕ) → 0 < q → 0 < T → 0 < d
        → p over q *ℚ X over T +ℚ e over d *ℚ p over q *ℚ Y over T ≡ (p * (d * X + e * Y)) over (q * (T * d))
    parts p q X T e d Y qp Tp dp =
        let qT = mul-pos qp Tp in
        let dq = mul-pos dp qp in
        let dqT = mul-pos dq Tp in
        ap₂ (λ u v. u +ℚ v) (over_mul p q X T qp Tp)
        (ap (λ u. u *ℚ Y over T) (over_mul e d p q dp qp) ∙ over_mul (e * p) (d * q) Y T dq Tp)
        ∙ over_add (p * X) (q * T) (e * p * Y) (d * q * T) qT dqT
        ∙ over_same _ _ _ _ (mul-pos qT dqT) (mul-pos qp (mul-pos Tp dp)) (omega arith)

-- the low end is at most that
low_part : (X Y T d e j p q lo : ℕ) → lo ≡ (d * (X / T) + e * (Y / T)) / (d * j) * p / q
    → lo * j * (q * (T * d)) ≤ p * (d * X + e * Y)
low_part X Y T d e j p q lo is =
    let L : ℕ = d * (X / T) + e * (Y / T) in
    let Z : ℕ = L / (d * j) in
    let last : lo * q ≤ Z * p = rw is (div-mul-le_self (Z * p) q) in
    omega (
      arith,
      mul-le-mul_right (j * T * d) last,
      mul-le-mul_right (T * p) (div-mul-le_self L (d * j)),
      mul-le-mul_right (d * p) (div-mul-le_self X T),
      mul-le-mul_right (e * p) (div-mul-le_self Y T),
    )

-- the high end is at least that
high_part : (X Y T d e j p q : ℕ) → 0 < T → 0 < d * j → 0 < q
    → p * (d * X + e * Y) ≤ div_ceil (div_ceil (d * div_ceil X T + e * div_ceil Y T) (d * j) * p) q * j * (q * (T * d))
high_part X Y T d e j p q Tp djp qp =
    let H : ℕ = d * div_ceil X T + e * div_ceil Y T in
    let Z : ℕ = div_ceil H (d * j) in
    omega (
      arith,
      mul-le-mul_right (j * T * d) (div_ceil_times (Z * p) q qp).0,
      mul-le-mul_right (T * p) (div_ceil_times H (d * j) djp).0,
      mul-le-mul_right (d * p) (div_ceil_times X T Tp).0,
      mul-le-mul_right (e * p) (div_ceil_times Y T Tp).0,
    )

module _ (items : List Item) (T S : ℕ) (t x : Fraction) (r : Rate) (lo hi : ℕ → ℕ) (K : ℕ)
    (F : Follows (low_next_of_shape items T t r) (high_next_of_shape S items T t r) lo hi K) (pos : 0 < T)
    (is : r.num over r.den ≡ x) where
  whole_part : (n s : ℕ) → whole n *ℚ whole (suc s) ≡ (n * suc s) over 1
  whole_part n s = sym (whole_times n (suc s))

  divisor_pos : 0 < r.den * (T * t.den)
  divisor_pos = mul-pos r.positive (mul-pos pos t.positive)

  pub shape_outward : FollowsOutward S K x (t *ℚ x) (λ j. weight_at items j over T) lo hi
  shape_outward = record {
    low = λ s inside. times_le_cancel _ _ (whole (suc s)) (whole_pos (suc s) (zero-lt-suc s))
        (rw (whole_part (lo (suc s)) s, before_of_shape items T t x r.num r.den lo s pos r.positive is)
        (over_le _ 1 _ (r.den * (T * t.den)) one_pos divisor_pos (omega (
          arith,
          low_part (by_number items lo s) (next_sum (coefficient true items) lo s) T t.den t.num (suc s) r.num r.den
              (lo (suc s)) (F.low s inside),
        ))));
    high = λ s inside.
        let X : ℕ = by_number items hi s in
        let Y : ℕ = next_sum (coefficient true items) hi s in
        let top : ℕ = div_ceil (div_ceil (high_of_shape items T t hi s) (t.den * suc s) * r.num) r.den in
        elim (cases_lt S top) [
          | inl far ↦ inr (omega (arith, F.high s inside))
          | inr near ↦ inl (times_le_cancel _ _ (whole (suc s)) (whole_pos (suc s) (zero-lt-suc s))
              (rw (
                F.high s inside ∙ min-eq_right near,
                whole_part top s,
                before_of_shape items T t x r.num r.den hi s pos r.positive is,
              )
              (over_le _ (r.den * (T * t.den)) _ 1 divisor_pos one_pos (omega (
                arith,
                high_part X Y T t.den t.num (suc s) r.num r.den pos (mul-pos t.positive (zero-lt-suc s)) r.positive,
              )))))
        ];
  }

-- ---- cell 0

-- the ratio of a gamma count of shape t and mean t * beta
pub ratio_of_shape : (t beta : Fraction) → whole 0 <ℚ t → t *ℚ beta /ℚ (t +ℚ t *ℚ beta) ≡ beta /ℚ (whole 1 +ℚ beta)
ratio_of_shape t beta above =
    let one : Fraction = whole 1 +ℚ beta in
    let one_above : whole 0 <ℚ one = lt_of_lt_of_le _ (whole 1) _ (whole_pos 1 one_pos) (le_plus (whole 1) beta) in
    let all_above : whole 0 <ℚ t +ℚ t *ℚ beta = lt_of_lt_of_le _ t _ above (le_plus t (t *ℚ beta)) in
    times_cancel _ _ (t +ℚ t *ℚ beta) all_above
    (div_times (t *ℚ beta) (t +ℚ t *ℚ beta) all_above
    ∙ ap (λ u. t *ℚ u) (sym (div_times beta one one_above)) ∙ turn t (beta /ℚ one) beta)
  where
    turn : (t q b : Fraction) → t *ℚ (q *ℚ (whole 1 +ℚ b)) ≡ q *ℚ (t +ℚ t *ℚ b)
    turn t q b = simp ring

pub cell_near : (l h S E : ℕ) → 0 < E → l ≤ h → (h - l) * 2 ^ 56 ≤ E → S ≤ 2 ^ 56 → div_ceil (h * S) E ≤ l * S / E + 2
cell_near l h S E pos order narrow scale =
    let d : ℕ = h - l in
    let e : l + d ≡ h = omega (arith, order) in
    div_ceil_least (h * S) E (l * S / E + 2) pos (omega (
      arith,
      ap (λ x. x * S) e,
      narrow,
      mul-le-mul_left d scale,
      lt-div-mul-add {a = l * S} {b = E} pos,
    ))
