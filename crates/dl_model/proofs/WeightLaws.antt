-- Probabilities from whole weights: none past the greatest number, and 1 in all.
use Rattle.dl_model.proofs.Common.{ℕ, ◌≡◌, ◌+◌, ◌<◌, ◌≤◌, zero, suc, arith, refl, sym, ap, ◌∙◌, List, [], ◌∷◌, length, inl, inr, if◌then◌else◌, ◌==◌, sum_by-cons, ◌≤ℚ◌, whole, sum_to, over_same, over_le, one_pos, Item, weight_at, weight_sum, greatest, probability_at, equally_likely, count_by, sum_through, sum_to_over, le_ind, fun_ext, ne_eqb, eqb_tells, ◌*◌, ap₂, sum_by}

-- the weight that an item gives to x
abbrev pub part_of : ℕ → Item → ℕ
part_of x item = if item.amount == x then item.weight else 0

-- a step of a weight, and of the total
pub weight_at-cons : (item : Item) (items : List Item) (x : ℕ)
    → weight_at (item ∷ items) x ≡ part_of x item + weight_at items x
weight_at-cons item items x = sum_by-cons (part_of x) item items

pub weight_sum-cons : (item : Item) (items : List Item) → weight_sum (item ∷ items) ≡ item.weight + weight_sum items
weight_sum-cons item items = sum_by-cons (λ (i : Item). i.weight) item items

-- no weight is above the total
pub weight_within : (items : List Item) (x : ℕ) → weight_at items x ≤ weight_sum items
weight_within [] x = omega arith
weight_within (item ∷ items) x = elim (eqb_tells item.amount x) [
  | inl p ↦ rw (weight_at-cons item items x, p.0) (omega (arith, weight_sum-cons item items, weight_within items x))
  | inr p ↦ rw (weight_at-cons item items x, p.0) (omega (arith, weight_sum-cons item items, weight_within items x))
]

-- no weight stands past the greatest number
pub weight_at-past : (items : List Item) (x : ℕ) → greatest items < x → weight_at items x ≡ 0
weight_at-past [] x h = refl
weight_at-past (item ∷ items) x h = rw (weight_at-cons item items x, ne_eqb item.amount x (omega arith))
    (omega (arith, weight_at-past items x (omega arith)))

-- ---- sums of the weights

sum_through_add : (n : ℕ) (f g : ℕ → ℕ) → sum_through (λ k. f k + g k) n ≡ sum_through f n + sum_through g n
sum_through_add zero f g = refl
sum_through_add (suc n) f g = omega (arith, sum_through_add n f g)

-- the weight of one number, times a value of the place, summed over the places up to n
none_before : (f : ℕ → ℕ) (v w n : ℕ) → n < v → sum_through (λ x. f x * (if v == x then w else 0)) n ≡ 0
none_before f v w zero h = rw (ne_eqb v 0 (omega arith)) (omega arith)
none_before f v w (suc n) h = rw (ne_eqb v (suc n) (omega arith)) (omega (arith, none_before f v w n (omega arith)))

one_within : (f : ℕ → ℕ) (v w n : ℕ) → v ≤ n → sum_through (λ x. f x * (if v == x then w else 0)) n ≡ f v * w
one_within f zero w zero h = refl
one_within f (suc v) w zero h = absurd (omega arith)
one_within f v w (suc n) h = elim (eqb_tells v (suc n)) [
  | inl p ↦ rw p.0 (omega (arith, none_before f v w n (omega (arith, p.1)), ap (λ k. f k * w) p.1))
  | inr p ↦ rw p.0 (omega (arith, one_within f v w n (omega (arith, p.1))))
]

no_weights : (f : ℕ → ℕ) (n : ℕ) → sum_through (λ x. f x * weight_at [] x) n ≡ 0
no_weights f zero = omega arith
no_weights f (suc n) = omega (arith, no_weights f n)

-- each place up to n by a value of it: as each item by the value of its number, from the greatest number on
pub weights_times : (f : ℕ → ℕ) (items : List Item) (n : ℕ) → greatest items ≤ n
    → sum_through (λ x. f x * weight_at items x) n ≡ sum_by (λ item. f item.amount * item.weight) items
weights_times f [] n h = no_weights f n
weights_times f (item ∷ items) n h =
    let each : (x : ℕ) → f x * weight_at (item ∷ items) x ≡ f x * part_of x item + f x * weight_at items x =
    λ x. rw (weight_at-cons item items x) (omega arith) in
    ap (λ g. sum_through g n) (fun_ext each)
    ∙ sum_through_add n (λ x. f x * part_of x item) (λ x. f x * weight_at items x)
    ∙ ap₂ (λ a b. a + b) (one_within f item.amount item.weight n (omega arith)) (weights_times f items n (omega arith))
    ∙ sym (sum_by-cons (λ (i : Item). f i.amount * i.weight) item items)

-- places up to n have at most all weight, and all of it from the greatest number on
pub weights_all : (items : List Item) (n : ℕ) → greatest items ≤ n → sum_through (weight_at items) n ≡ weight_sum items
weights_all items n h =
    let by_one : (k : ℕ) → k ≡ 1 * k = λ k. omega arith in
    ap (λ g. sum_through g n) (fun_ext (λ x. by_one (weight_at items x))) ∙ weights_times (λ x. 1) items n h
    ∙ sym (ap (λ g. sum_by g items) (fun_ext (λ (item : Item). by_one item.weight)))

pub weights_le : (items : List Item) (n : ℕ) → sum_through (weight_at items) n ≤ weight_sum items
weights_le items n =
    let m = n + greatest items in
    let more : sum_through (weight_at items) n ≤ sum_through (weight_at items) m =
    le_ind {n = n} (λ k. sum_through (weight_at items) n ≤ sum_through (weight_at items) k) (omega arith)
    (λ k _ h. omega (arith, h)) m (omega arith) in
    omega (arith, more, weights_all items m (omega arith))

-- ---- probabilities

pub probability-past : (items : List Item) (x : ℕ) → 0 < weight_sum items → greatest items < x
    → probability_at items x ≡ whole 0
probability-past items x pos h = over_same _ _ 0 1 pos one_pos (omega (arith, weight_at-past items x h))

pub probabilities_all : (items : List Item) (n : ℕ) → 0 < weight_sum items → greatest items ≤ n
    → sum_to n (probability_at items) ≡ whole 1
probabilities_all items n pos h = sum_to_over n (weight_sum items) (weight_at items) pos
    ∙ over_same _ _ 1 1 pos one_pos (omega (arith, weights_all items n h))

pub probabilities_le : (items : List Item) (n : ℕ) → 0 < weight_sum items → sum_to n (probability_at items) ≤ℚ whole 1
probabilities_le items n pos = rw (sum_to_over n (weight_sum items) (weight_at items) pos)
    (over_le _ _ 1 1 pos one_pos (omega (arith, weights_le items n)))

-- ---- numbers that are equally likely

pub equal_total : (values : List ℕ) → weight_sum (equally_likely values) ≡ length values
equal_total [] = refl
equal_total (v ∷ values) =
    let item : Item = record { amount = v; weight = 1 } in
    omega (arith, weight_sum-cons item (equally_likely values), equal_total values)

pub equal_weight : (values : List ℕ) (x : ℕ) → weight_at (equally_likely values) x ≡ count_by (λ v. v == x) values
equal_weight [] x = refl
equal_weight (v ∷ values) x =
    weight_at-cons (record { amount = v; weight = 1 }) (equally_likely values) x
    ∙ ap (λ t. (if v == x then 1 else 0) + t) (equal_weight values x)
    ∙ sym (sum_by-cons (λ (v : ℕ). if v == x then 1 else 0) v values)
