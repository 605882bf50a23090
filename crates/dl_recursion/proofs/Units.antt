-- The steps of a count's weights, and items with their weights times a factor.
use Rattle.dl_recursion.proofs.Common.{◌≡◌, inl, inr, ℕ, ◌+◌, ◌*◌, ◌/◌, ◌<◌, List, [], ◌∷◌, length, take, get_or, arith, sym, ap, ◌∙◌, mul-pos, refl, add-one, All, sum_by, sum_by-cons, sum_by_more, Fraction, ◌over◌, ◌*ℚ◌, whole, over_mul, over_same, over_self, over_times_whole, whole_times, one_pos, one_times, poisson, gamma, IsPanjer, Part, in_a_row, eq-zero-or-pos, mul-add, ◌≢◌, add-zero, eq_of_mul-eq-mul_right, eq-eqb, ne_eqb, All-head, All-tail, ◌==◌, if◌then◌else◌, eqb_tells, times_assoc, zero_times, times_comm, Item, weight_sum, weight_at}
use Prim.Native.Nat.{◌∣◌}
use Rattle.dl_model.proofs.Panjer.{poisson_class, gamma_class}
use Rattle.dl_model.proofs.Multiples.{multiple_of}
use Rattle.dl_recursion.proofs.Runs.{row_none, row_more}

-- ---- an item with its amount in steps of g and its weight times k

abbrev pub times_item : ℕ → ℕ → Item → Part
times_item g k item = record { amount = item.amount / g; weight = k * item.weight }

-- an amount above 0 comes to a step or more
pub some_steps : (g a : ℕ) → g ∣ a → 0 < a → 0 < a / g
some_steps g a d p = grind (arith, eq-zero-or-pos (a / g), multiple_of g a d)

-- it is j steps exactly where it is g * j
times_at : (g k j : ℕ) (item : Item) → 0 < g → g ∣ item.amount
    → (if (times_item g k item).amount == j then (times_item g k item).weight else 0) ≡ k *
    (if item.amount == g * j then item.weight else 0)
times_at g k j item p d = elim (eqb_tells (item.amount / g) j) [
  | inl t ↦ rw (t.0, eq-eqb item.amount (g * j) (omega (arith, multiple_of g item.amount d, ap (λ t. t * g) t.1))) refl
  | inr t ↦
      let other : item.amount ≢ g * j = λ e. t.1 (eq_of_mul-eq-mul_right g p (item.amount / g) j
      (omega (arith, multiple_of g item.amount d, e))) in
      rw (t.0, ne_eqb item.amount (g * j) other) (omega arith)
]

-- sums over items with their weights times k
pub times_sum : (k : ℕ) (items : List Item) → sum_by (λ (item : Item). k * item.weight) items ≡ k * weight_sum items
times_sum k [] = omega arith
times_sum k (x ∷ xs) =
    rw (sum_by-cons, sum_by-cons (λ (item : Item). item.weight) x xs) (omega (arith, times_sum k xs))

pub times_each : (g k j : ℕ) (items : List Item) → 0 < g → All (λ (item : Item). g ∣ item.amount) items
    → sum_by (λ (item : Item). if (times_item g k item).amount == j then
    (times_item g k item).weight else 0) items ≡ k * weight_at items (g * j)
times_each g k j [] p d = omega arith
times_each g k j (x ∷ xs) p d = omega (
  arith,
  sum_by-cons (λ (item : Item). if (times_item g k item).amount == j then (times_item g k item).weight else 0) x xs,
  ap (λ t. k * t) (sum_by-cons (λ (item : Item). if item.amount == g * j then item.weight else 0) x xs),
  times_at g k j x p (All-head (λ (item : Item). g ∣ item.amount) x xs d),
  times_each g k j xs p (All-tail (λ (item : Item). g ∣ item.amount) x xs d),
  mul-add k (if x.amount == g * j then x.weight else 0) (weight_at xs (g * j)),
)

module _ (f : Part → ℕ) (g k : ℕ) (items : List Item) (i : ℕ) (d : Item) (h : i < length items) where
  -- one item more for the run at the end
  pub item_joined : (m n w S : ℕ) → (get_or items i d).amount / g ≡ m + n → k * (get_or items i d).weight ≡ w
      → S + sum_by f (in_a_row m n w) ≡ sum_by (λ item. f (times_item g k item)) (take i items)
      → S + sum_by f (in_a_row m (n + 1) w) ≡ sum_by (λ item. f (times_item g k item)) (take (i + 1) items)
  item_joined m n w S p q e =
      grind (arith, sum_by_more (λ (item : Item). f (times_item g k item)) items i d h, add-one n, row_more f m n w)

  -- a new run of this item alone
  pub item_begun : (w S : ℕ) → k * (get_or items i d).weight ≡ w
      → S ≡ sum_by (λ item. f (times_item g k item)) (take i items)
      → S + sum_by f (in_a_row ((get_or items i d).amount / g) 1 w) ≡ sum_by (λ item. f (times_item g k item))
      (take (i + 1) items)
  item_begun w S q e =
      grind (arith, sum_by_more (λ (item : Item). f (times_item g k item)) items i d h, row_more, row_none, add-zero)

-- the weights by the lowest terms of x over their total: q times x times a probability is its weight
pub chance_scaled : (x : Fraction) (total w v : ℕ) (each : Fraction) → 0 < total → each ≡ x.num over (x.den * total)
    → v ≡ each.num * w → whole each.den *ℚ (x *ℚ w over total) ≡ whole v
chance_scaled x total w v each t is e =
    let b : 0 < x.den = x.positive in
    let product : x *ℚ w over total ≡ each *ℚ whole w =
    ap (λ s. s *ℚ w over total) (sym (over_self x)) ∙ over_mul x.num x.den w total b t
    ∙ over_same _ _ _ _ (mul-pos b t) (mul-pos (mul-pos b t) one_pos) (omega arith)
    ∙ sym (over_mul x.num (x.den * total) w 1 (mul-pos b t) one_pos) ∙ ap (λ s. s *ℚ whole w) (sym is) in
    let back : whole each.den *ℚ each ≡ whole each.num =
    times_comm _ _ ∙ ap (λ s. s *ℚ whole each.den) (sym (over_self each)) ∙ over_times_whole _ _ each.positive in
    rw (product, ← times_assoc, back, e, whole_times)

-- ---- the two classes

pub poisson_steps : (v : Fraction) → IsPanjer (whole 0 *ℚ v) (whole 1 *ℚ v) (poisson v)
poisson_steps v = rw (zero_times, one_times) (poisson_class v)

pub over_part : (n m d : ℕ) → 0 < m → 0 < d → n over (m * d) *ℚ whole d ≡ n over m
over_part n m d p q = over_mul n (m * d) d 1 (mul-pos p q) one_pos
    ∙ over_same _ _ _ _ (mul-pos (mul-pos p q) one_pos) p (omega arith)

-- of shape r, by x over the divisor of r
pub gamma_steps : (r x y : Fraction) → y *ℚ whole r.den ≡ x
    → IsPanjer (whole r.den *ℚ y) (whole r.num *ℚ y) (gamma r x)
gamma_steps r x y e =
    let part : r *ℚ whole r.den ≡ whole r.num =
    ap (λ t. t *ℚ whole r.den) (sym (over_self r)) ∙ over_times_whole r.num r.den r.positive in
    let turn : r *ℚ whole r.den *ℚ y ≡ r *ℚ (y *ℚ whole r.den) = times_assoc _ _ _ ∙ ap (λ t. r *ℚ t) (times_comm _ _) in
    rw (times_comm (whole r.den) y, e, ← part, turn, e) (gamma_class r x)
