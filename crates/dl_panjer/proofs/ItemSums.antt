-- Sums over the items of a severity, turned into sums over the pairs of places that add up to a cell's number.
use Rattle.dl_panjer.proofs.Common.{ℕ, zero, suc, ◌≡◌, ◌+◌, ◌-◌, ◌*◌, ◌<◌, ◌≤◌, Bool, true, false, List, [], ◌∷◌, take, drop, arith, refl, sym, ap, ap₂, ◌∙◌, inl, inr, All, sum_by, mul-le-mul_right, count_below, below_le, below_plus, below_times, below_pairs, Item, weight_at, weight_sum, counted, coefficient, next_sum, if◌then◌else◌, ◌==◌, eq-eqb, ne_eqb, All-tail, sum_by-cons, sum_by-take-drop, below_same, pairs_le, below_none, pairs_only, eqb_tells}
use Rattle.std.proofs.Math.Nat.{zero-add, mul-le-mul, mul-le-mul_left, add-mul}

-- ---- the weights of a list of items

pub weight_at-cons : (item : Item) (items : List Item) (x : ℕ)
    → weight_at (item ∷ items) x ≡ (if item.amount == x then item.weight else 0) + weight_at items x
weight_at-cons item items x = sum_by-cons (λ (i : Item). if i.amount == x then i.weight else 0) item items

-- no weight stands at an amount below them all
weight_below : (items : List Item) (m x : ℕ) → All (λ item. m < item.amount) items → x ≤ m → weight_at items x ≡ 0
weight_below [] m x far h = refl
weight_below (item ∷ items) m x far h =
    rw (weight_at-cons item items x, ne_eqb item.amount x (omega (arith, far 0 item (omega arith))), zero-add)
    (weight_below items m x (All-tail (λ i. m < i.amount) item items far) h)

counted_plus : (b : Bool) (j m n : ℕ) → counted b j (m + n) ≡ counted b j m + counted b j n
counted_plus true j m n = omega arith
counted_plus false j m n = refl

counted_zero : (b : Bool) (j : ℕ) → counted b j 0 ≡ 0
counted_zero true j = omega arith
counted_zero false j = refl

-- one item's part of the sum
one_item : (b : Bool) (s : ℕ) (g : ℕ → ℕ) (item : Item) → 0 < item.amount → item.amount ≤ suc s
    → count_below (suc s) (λ i. counted b (suc i) (if item.amount == suc i then item.weight else 0) * g (s - i))
    ≡ counted b item.amount item.weight * g (suc s - item.amount)
one_item b s g item some near =
    let a : ℕ = item.amount - 1 in
    let e : suc a ≡ item.amount = omega (arith, some) in
    below_pairs s (λ i k. counted b (suc i) (if item.amount == suc i then item.weight else 0) * g k)
    ∙ pairs_only s a (suc s - item.amount) _ (omega (arith, some, near)) (λ i k other.
    rw (ne_eqb item.amount (suc i) (omega (arith, other, e)), counted_zero b (suc i)) (omega arith))
    ∙ rw (e, eq-eqb item.amount item.amount refl) refl

-- the items up to s + 1, each with the end that it leaves
pub near_items : (b : Bool) (s : ℕ) (g : ℕ → ℕ) (items : List Item) → All (λ item. 0 < item.amount) items
    → All (λ item. item.amount ≤ suc s) items
    → count_below (suc s) (λ i. coefficient b items i * g (s - i)) ≡ sum_by
    (λ item. counted b item.amount item.weight * g (suc s - item.amount)) items
near_items b s g [] some near =
    below_none (suc s) _ (λ i inside. rw (counted_zero b (suc i)) (omega arith))
near_items b s g (item ∷ items) some near =
    below_same (suc s) _ _ (λ i inside. rw (weight_at-cons item items (suc i), counted_plus) (add-mul
    (counted b (suc i) (if item.amount == suc i then item.weight else 0)) (coefficient b items i) (g (s - i))))
    ∙ below_plus (suc s) (λ i. counted b (suc i) (if item.amount == suc i then item.weight else 0) * g (s - i))
    (λ i. coefficient b items i * g (s - i))
    ∙ ap₂ (λ t u. t + u) (one_item b s g item (some 0 item (omega arith)) (near 0 item (omega arith)))
    (near_items b s g items (All-tail (λ i. 0 < i.amount) item items some)
    (All-tail (λ i. i.amount ≤ suc s) item items near))
    ∙ sym (sum_by-cons (λ (i : Item). counted b i.amount i.weight * g (suc s - i.amount)) item items)

-- the first r items reach up to s + 1, and no later one does
pub items_next_sum : (b : Bool) (s r : ℕ) (g : ℕ → ℕ) (items : List Item) → All (λ item. 0 < item.amount) (take r items)
    → All (λ item. item.amount ≤ suc s) (take r items)
    → All (λ item. suc s < item.amount) (drop r items)
    → sum_by (λ item. counted b item.amount item.weight * g (suc s - item.amount)) (take r items) ≡ next_sum
    (coefficient b items) g s
items_next_sum b s r g items some near far =
    sym (near_items b s g (take r items) some near)
    ∙ below_same (suc s) _ _ (λ i inside.
    let whole = sum_by-take-drop (λ (item : Item). if item.amount == suc i then item.weight else 0) items r in
    let none : weight_at (drop r items) (suc i) ≡ 0 =
    weight_below (drop r items) (suc s) (suc i) far (omega (arith, inside)) in
    ap (λ t. counted b (suc i) t * g (s - i)) (omega (arith, whole, none)))
    ∙ below_pairs s (λ i k. coefficient b items i * g k)

-- ---- bounds

pub counted_le : (b : Bool) (j n m : ℕ) → 1 ≤ m → j ≤ m → counted b j n ≤ m * n
counted_le true j n m h k = mul-le-mul_right n k
counted_le false j n m h k = omega (arith, mul-le-mul_right n h)

-- what is added up over items up to m, of ends of at most e
pub items_fit : (b : Bool) (m e : ℕ) (g : ℕ → ℕ) (items : List Item) → 1 ≤ m → ((k : ℕ) → g k ≤ e)
    → All (λ item. item.amount ≤ m) items
    → sum_by (λ item. counted b item.amount item.weight * g (m - item.amount)) items ≤ m * e * weight_sum items
items_fit b m e g [] some ends near = omega arith
items_fit b m e g (item ∷ items) some ends near =
    let product : counted b item.amount item.weight * g (m - item.amount) ≤ m * item.weight * e =
    mul-le-mul (counted_le b item.amount item.weight m some (near 0 item (omega arith))) (ends (m - item.amount)) in
    rw (
      sum_by-cons (λ (i : Item). counted b i.amount i.weight * g (m - i.amount)) item items,
      sum_by-cons (λ (i : Item). i.weight) item items,
    ) (omega (
      arith,
      product,
      items_fit b m e g items some ends (All-tail (λ i. i.amount ≤ m) item items near),
    ))

-- ---- what all amounts count for

one_weight : (n a w : ℕ) → count_below n (λ i. if a == suc i then w else 0) ≤ w
unfolding count_below
one_weight zero a w = omega arith
one_weight (suc n) a w = elim (eqb_tells a (suc n)) [
  | inl p ↦
      let none = below_none n (λ i. if a == suc i then w else 0)
      (λ i inside. rw (ne_eqb a (suc i) (omega (arith, p.1, inside))) refl) in
      rw p.0 (omega (arith, none))
  | inr p ↦ rw p.0 (omega (arith, one_weight n a w))
]

pub weights_within : (n : ℕ) (items : List Item) → count_below n (λ i. weight_at items (suc i)) ≤ weight_sum items
weights_within n [] = omega (arith, below_none n (λ i. weight_at [] (suc i)) (λ i inside. refl))
weights_within n (item ∷ items) =
    omega (
      arith,
      below_same n (λ i. weight_at (item ∷ items) (suc i))
          (λ i. (if item.amount == suc i then item.weight else 0) + weight_at items (suc i))
          (λ i inside. weight_at-cons item items (suc i)),
      below_plus n (λ i. if item.amount == suc i then item.weight else 0) (λ i. weight_at items (suc i)),
      one_weight n item.amount item.weight,
      weights_within n items,
      sum_by-cons (λ (i : Item). i.weight) item items,
    )

pub coefficients_within : (b : Bool) (s : ℕ) (items : List Item)
    → count_below (suc s) (coefficient b items) ≤ counted b (suc s) (weight_sum items)
coefficients_within false s items = weights_within (suc s) items
coefficients_within true s items =
    let each = below_le (suc s) (coefficient true items) (λ i. weight_at items (suc i) * suc s) (λ i inside.
    let near : suc i ≤ suc s = omega (arith, inside) in
    omega (arith, mul-le-mul_right (weight_at items (suc i)) near)) in
    omega (
      arith,
      each,
      below_times (suc s) (suc s) (λ i. weight_at items (suc i)),
      mul-le-mul_right (suc s) (weights_within (suc s) items),
    )

-- of ends of at most m
pub next_sum_le : (c ends : ℕ → ℕ) (s m : ℕ) → ((k : ℕ) → ends k ≤ m) → next_sum c ends s ≤ count_below (suc s) c * m
next_sum_le c ends s m bound =
    omega (
      arith,
      pairs_le s (λ i k. c i * ends k) (λ i k. c i * m) (λ i k. mul-le-mul_left (c i) (bound k)),
      below_pairs s (λ i k. c i * m),
      below_times (suc s) m c,
    )

pub next_sum_rises : (c f g : ℕ → ℕ) (s : ℕ) → ((k : ℕ) → f k ≤ g k) → next_sum c f s ≤ next_sum c g s
next_sum_rises c f g s h = pairs_le s (λ i k. c i * f k) (λ i k. c i * g k) (λ i k. mul-le-mul_left (c i) (h k))

-- only the ends up to s count
pub next_sum_same : (c f g : ℕ → ℕ) (s : ℕ) → ((k : ℕ) → k ≤ s → f k ≡ g k) → next_sum c f s ≡ next_sum c g s
next_sum_same c f g s h =
    sym (below_pairs s (λ i k. c i * f k))
    ∙ below_same (suc s) (λ i. c i * f (s - i)) (λ i. c i * g (s - i))
    (λ i inside. ap (λ t. c i * t) (h (s - i) (omega arith)))
    ∙ below_pairs s (λ i k. c i * g k)
