-- The weights of a list, as a loop adds them up.
use Rattle.dl_claims.proofs.Common.{ℕ, zero, suc, ◌≡◌, ◌+◌, ◌*◌, ◌/◌, ◌<◌, ◌≤◌, List, [], ◌∷◌, length, get_or, take, arith, refl, sym, ap, inl, inr, ◌∙◌, add-one, div-mul-le_self, mul-le-mul_left, mul-le-mul_right, le_of_mul-le-mul_right, ne_eqb, eqb_tells, sum_by_more, count_below, below_nothing, below_more, below_le, probability_at, IsWithinOne, part_of, Item, weight_at, weight_sum, greatest, ◌≢◌, ◌==◌, if◌then◌else◌, max, sum_through, below_times, weights_le, probabilities_le, amounts_of, IsStrictlyIncreasing, AllPairs-from_increasing}

pub part_le : (x : ℕ) (item : Item) → part_of x item ≤ item.weight
part_le x item = elim (eqb_tells item.amount x) [
  | inl p ↦ rw p.0 (omega arith)
  | inr p ↦ rw p.0 (omega arith)
]

greatest_front : (items : List Item) (i : ℕ) (d : Item) → i < length items
    → greatest (take (suc i) items) ≡ max (greatest (take i items)) (get_or items i d).amount
greatest_front [] i d inside = absurd (omega arith)
greatest_front (item ∷ items) zero d inside = omega arith
greatest_front (item ∷ items) (suc i) d inside = omega (arith, greatest_front items i d (omega arith))

-- the greatest number so far, and the next
pub greatest_more : (items : List Item) (i : ℕ) (d : Item) → i < length items
    → greatest (take (i + 1) items) ≡ max (greatest (take i items)) (get_or items i d).amount
greatest_more items i d inside = ap (λ k. greatest (take k items)) (add-one i) ∙ greatest_front items i d inside

-- the shares of the numbers below n, rounded down, in units of 1/S
abbrev pub shares_below : (S total : ℕ) → List Item → ℕ → ℕ
shares_below S total items n = count_below n (λ x. S * weight_at items x / total)

below_through : (f : ℕ → ℕ) (n : ℕ) → count_below (suc n) f ≡ sum_through f n
unfolding count_below
below_through f zero = omega arith
below_through f (suc n) = omega (arith, below_through f n)

weights_below : (items : List Item) (n : ℕ) → count_below n (weight_at items) ≤ weight_sum items
weights_below items zero = omega (arith, below_nothing (weight_at items))
weights_below items (suc n) = omega (arith, below_through (weight_at items) n, weights_le items n)

-- they add up to at most 1
pub shares_fit : (S total : ℕ) (items : List Item) (n : ℕ) → 0 < total → weight_sum items ≡ total
    → shares_below S total items n ≤ S
shares_fit S total items n pos e =
    let scaled : count_below n (λ x. S * weight_at items x / total * total) ≤ count_below n
    (λ x. weight_at items x * S) =
    below_le n (λ x. S * weight_at items x / total * total) (λ x. weight_at items x * S)
    (λ x inside. omega (arith, div-mul-le_self (S * weight_at items x) total)) in
    let left = below_times n total (λ x. S * weight_at items x / total) in
    let right = below_times n S (weight_at items) in
    let all : S * count_below n (weight_at items) ≤ S * total =
    mul-le-mul_left S (omega (arith, weights_below items n)) in
    le_of_mul-le-mul_right {k = total} (omega (arith, scaled, left, right, all)) pos

pub shares_next : (S total : ℕ) (items : List Item) (n m : ℕ) → m ≡ n + 1
    → shares_below S total items m ≡ shares_below S total items n + S * weight_at items n / total
shares_next S total items n m e = ap (shares_below S total items) e ∙ below_more n (λ x. S * weight_at items x / total)

-- ---- rising numbers

amount_at : (items : List Item) (k : ℕ) (d : Item) → k < length items
    → get_or (amounts_of items) k 0 ≡ (get_or items k d).amount
amount_at [] k d inside = absurd (omega arith)
amount_at (item ∷ items) zero d inside = refl
amount_at (item ∷ items) (suc k) d inside = amount_at items k d (omega arith)

amounts_many : (items : List Item) → length (amounts_of items) ≡ length items
amounts_many [] = refl
amounts_many (item ∷ items) = ap suc (amounts_many items)

before_below : (items : List Item) (k i : ℕ) (d : Item) → IsStrictlyIncreasing (amounts_of items) → k < i
    → i < length items
    → (get_or items k d).amount < (get_or items i d).amount
before_below items k i d rising before inside =
    omega (
      arith,
      AllPairs-from_increasing (amounts_of items) rising k i 0 before (omega (arith, amounts_many items)),
      amount_at items k d (omega arith),
      amount_at items i d inside,
    )

none_of : (items : List Item) (i x : ℕ) (d : Item) → i ≤ length items
    → ((k : ℕ) → k < i → (get_or items k d).amount ≢ x) → weight_at (take i items) x ≡ 0
none_of items zero x d few other = refl
none_of items (suc i) x d few other =
    let here : part_of x (get_or items i d) ≡ 0 =
    rw (ne_eqb (get_or items i d).amount x (other i (omega arith))) refl in
    ap (λ k. weight_at (take k items) x) (sym (add-one i))
    ∙ sum_by_more (part_of x) items i d (omega arith)
    ∙ omega (arith, none_of items i x d (omega arith) (λ k b. other k (omega arith)), here)

-- no number stands there twice
not_before : (items : List Item) (i : ℕ) (d : Item) → IsStrictlyIncreasing (amounts_of items) → i < length items
    → weight_at (take i items) (get_or items i d).amount ≡ 0
not_before items i d rising inside =
    none_of items i (get_or items i d).amount d (omega arith)
    (λ k before e. absurd (omega (arith, before_below items k i d rising before inside, e)))

-- what a cell holds of the weights so far, after the next item wrote its own
pub next_cell : (f : ℕ → ℕ) (items : List Item) (i : ℕ) (d : Item) (y old new fresh : ℕ)
    → IsStrictlyIncreasing (amounts_of items)
    → i < length items → old ≡ f (weight_at (take i items) y) → fresh ≡ f (get_or items i d).weight
    → new ≡ (if (get_or items i d).amount == y then fresh else old) → new ≡ f (weight_at (take (i + 1) items) y)
next_cell f items i d y old new fresh rising inside before here e =
    let item : Item = get_or items i d in
    let more : weight_at (take (i + 1) items) y ≡ weight_at (take i items) y + part_of y item =
    sum_by_more (part_of y) items i d inside in
    elim (eqb_tells item.amount y) [
      | inl p ↦
          let none : weight_at (take i items) y ≡ 0 = ap (λ t. weight_at (take i items) t) (sym p.1)
          ∙ not_before items i d rising inside in
          let part : part_of y item ≡ item.weight = rw p.0 refl in
          e ∙ ap (λ b. if b then fresh else old) p.0 ∙ here ∙ ap f (omega (arith, more, none, part))
      | inr p ↦
          let part : part_of y item ≡ 0 = rw p.0 refl in
          e ∙ ap (λ b. if b then fresh else old) p.0 ∙ before ∙ ap f (omega (arith, more, part))
    ]

-- one more share adds up to no more than its weight, and there is room for it
pub mass_more : (S total mass fresh before w : ℕ) → 0 < total → mass * total ≤ S * before → fresh ≡ S * w / total
    → (mass + fresh) * total ≤ S * (before + w)
mass_more S total mass fresh before w pos h e = omega (arith, h, div-mul-le_self (S * w) total, ap (λ t. t * total) e)

pub mass_room : (S total mass fresh before w : ℕ) → 0 < total → mass * total ≤ S * before → fresh ≡ S * w / total
    → before + w ≤ total → mass + fresh ≤ S
mass_room S total mass fresh before w pos h e within =
    le_of_mul-le-mul_right {k = total} (omega (
      arith,
      mass_more S total mass fresh before w pos h e,
      mul-le-mul_left S within,
    )) pos

pub mass_next : (S total mass fresh before w new after : ℕ) → 0 < total → mass * total ≤ S * before
    → fresh ≡ S * w / total
    → new ≤ mass + fresh → after ≡ before + w → new * total ≤ S * after
mass_next S total mass fresh before w new after pos h e grown sum =
    omega (arith, mass_more S total mass fresh before w pos h e, mul-le-mul_right total grown, ap (λ t. S * t) sum)

-- the model's probabilities add up to at most 1
pub probabilities_within : (items : List Item) (total : ℕ) → weight_sum items ≡ total → 0 < total
    → IsWithinOne (probability_at items)
probabilities_within items total e pos n = probabilities_le items n (omega (arith, e))
