-- What whole weights mean, and the conditioning on large amounts.
use Rattle.dl_plan.proofs.Common.{ℕ, suc, ◌≡◌, ◌∙◌, ◌*◌, ◌<◌, ◌≤◌, List, [], ◌∷◌, length, map, cond, nat_lt, ◌==◌, refl, ap, arith, mul-pos, inl, inr, cases_lt, All, All-cons, All-nil, Fraction, whole, ◌over◌, ◌*ℚ◌, over_same, Item, weight_sum, weight_at, weighted_sum, probability, mean_amount, conditioned, shares, lt-ltb, le-ltb, sum_by-filter_both, ◌/ℚ◌, over_div, Pairs, mass, sum_over_common, if_over, sum_over_map, sum_over_same, over_times}
use Rattle.std.proofs.Common.{Bool, not, filter}

-- the probabilities of a list of weights, over any total
pub probability-shares : (xs : List Item) (t y : ℕ) → 0 < t → probability (shares xs t) y ≡ weight_at xs y over t
probability-shares xs t y h =
    sum_over_map (λ (i : Item). (i.amount, i.weight over t)) (λ pair. cond (pair.0 == y) pair.1 (whole 0)) xs
    ∙ sum_over_same _ (λ (i : Item). cond (i.amount == y) i.weight 0 over t) xs
    (λ i. if_over (i.amount == y) i.weight t h)
    ∙ sum_over_common (λ (i : Item). cond (i.amount == y) i.weight 0) t xs h

pub mass-shares : (xs : List Item) (t : ℕ) → 0 < t → mass (shares xs t) ≡ weight_sum xs over t
mass-shares xs t h =
    sum_over_map (λ (i : Item). (i.amount, i.weight over t)) (λ pair. pair.1) xs
    ∙ sum_over_common (λ (i : Item). i.weight) t xs h

-- ---- amounts above a

abbrev pub items_over : ℕ → List Item → List Item
items_over a xs = filter (λ (i : Item). nat_lt a i.amount) xs

-- what of a list of such items is above a is what the items above a are
pub filter-map : {B : Type 0} (p : B → Bool) (f : Item → B) (xs : List Item)
    → filter p (map f xs) ≡ map f (filter (λ x. p (f x)) xs)
filter-map p f [] = refl
filter-map p f (x ∷ xs) = grind (arith, filter-map p f xs)

pub filter-shares : (a : ℕ) (xs : List Item) (t : ℕ) → filter (λ pair. nat_lt a pair.0) (shares xs t)
    ≡ shares (items_over a xs) t
filter-shares a xs t = filter-map (λ pair. nat_lt a pair.0) (λ (i : Item). (i.amount, i.weight over t)) xs

some_over : {n : ℕ} → suc n ≡ 0 → ⊥
some_over e = omega (arith, e)

pub none_over : (a : ℕ) (xs : List Item) → length (items_over a xs) ≡ 0 → All (λ (i : Item). i.amount ≤ a) xs
none_over a [] e = All-nil (λ (i : Item). i.amount ≤ a)
none_over a (x ∷ xs) e = elim (cases_lt a x.amount) [
  | inl h ↦ absurd (some_over (rw (lt-ltb a x.amount h) at e))
  | inr h ↦ All-cons (λ (i : Item). i.amount ≤ a) x xs h (none_over a xs (rw (le-ltb a x.amount h) at e))
]

share_of_share : (w t v : ℕ) → 0 < t → 0 < v → w over t /ℚ v over t ≡ w over v
share_of_share w t v ht hv = over_div w t v t ht ht hv ∙ over_same (w * t) (t * v) w v (mul-pos ht hv) hv (omega arith)

pub probability-conditioned : (a : ℕ) (xs : List Item) (t y : ℕ) → 0 < t → 0 < weight_sum (items_over a xs)
    → probability (conditioned a (shares xs t)) y ≡ weight_at (items_over a xs) y over weight_sum (items_over a xs)
probability-conditioned a xs t y ht hv =
    let kept = items_over a xs in
    let v = weight_sum kept in
    let value : Pairs → Fraction = λ ps. probability (map (λ pair. (pair.0, pair.1 /ℚ mass ps)) ps) y in
    let score : ℕ × Fraction → Fraction = λ pair. cond (pair.0 == y) pair.1 (whole 0) in
    ap value (filter-shares a xs t)
    ∙ sum_over_map (λ pair. (pair.0, pair.1 /ℚ mass (shares kept t))) score (shares kept t)
    ∙ sum_over_map (λ (i : Item). (i.amount, i.weight over t))
    (λ pair. cond (pair.0 == y) (pair.1 /ℚ mass (shares kept t)) (whole 0)) kept
    ∙ sum_over_same _ (λ (i : Item). cond (i.amount == y) i.weight 0 over v) kept
    (λ i. ap (λ m. cond (i.amount == y) (i.weight over t /ℚ m) (whole 0)) (mass-shares kept t ht)
    ∙ ap (λ q. cond (i.amount == y) q (whole 0)) (share_of_share i.weight t v ht hv)
    ∙ if_over (i.amount == y) i.weight v hv)
    ∙ sum_over_common (λ (i : Item). cond (i.amount == y) i.weight 0) v kept hv

pub weight_over-le : (a : ℕ) (xs : List Item) → weight_sum (items_over a xs) ≤ weight_sum xs
weight_over-le a xs = omega (
  arith,
  sum_by-filter_both (λ (i : Item). nat_lt a i.amount)
      (λ (i : Item). not (nat_lt a i.amount)) (λ i. refl) (λ (i : Item). i.weight) xs,
)

-- ---- the mean

pub mean-shares : (xs : List Item) (t : ℕ) → 0 < t → mean_amount (shares xs t) ≡ weighted_sum xs over t
mean-shares xs t h =
    sum_over_map (λ (i : Item). (i.amount, i.weight over t)) (λ pair. whole pair.0 *ℚ pair.1) xs
    ∙ sum_over_same _ (λ (i : Item). (i.amount * i.weight) over t) xs (λ i. over_times i.amount i.weight t h)
    ∙ sum_over_common (λ (i : Item). i.amount * i.weight) t xs h
