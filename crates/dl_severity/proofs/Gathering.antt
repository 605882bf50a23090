-- Items put one after another: rising amounts, weights above 0, and the weights of all.
use Rattle.dl_severity.proofs.Common.{ℕ, ◌≡◌, ◌∙◌, ◌+◌, ◌<◌, ◌≤◌, List, [], ◌∷◌, ◌++◌, length, get_or, take, true, false, cond, ◌==◌, refl, sym, ap, subst, arith, inl, inr, All, sum_by, cases_lt, map-append, get_or_default, All-push, All-nil, All-cons, All-tail, All-head, sum_by_more, Item, amounts_of, weight_sum, weight_at, ◌≢◌, Bool, lt_trans, AllPairs, IsStrictlyIncreasing, IsNonDecreasingBy, lt-ltb, le-ltb, AllPairs-from_increasing, all_pairs_push, sum_by_push, with_weighed}

below_amounts : (xs : List Item) (b : ℕ) → All (λ (i : Item). i.amount < b) xs → All (λ n. n < b) (amounts_of xs)
below_amounts [] b h = All-nil (λ n. n < b)
below_amounts (x ∷ xs) b h =
    All-cons (λ n. n < b) x.amount (amounts_of xs) (All-head (λ (i : Item). i.amount < b) x xs h)
    (below_amounts xs b (All-tail (λ (i : Item). i.amount < b) x xs h))

increasing_from_pairs : (xs : List ℕ) → AllPairs (λ x y. x < y) xs → IsStrictlyIncreasing xs
increasing_from_pairs xs pairs = λ k h. pairs k (k + 1) 0 (omega arith) h

pub rising-push : (xs : List Item) (y : Item) → IsStrictlyIncreasing (amounts_of xs)
    → All (λ (i : Item). i.amount < y.amount) xs → IsStrictlyIncreasing (amounts_of (xs ++ y ∷ []))
rising-push xs y rising below =
    subst IsStrictlyIncreasing (sym (map-append (λ (i : Item). i.amount) xs (y ∷ [])))
    (increasing_from_pairs _ (all_pairs_push (λ x z. x < z) (amounts_of xs) y.amount
    (AllPairs-from_increasing (amounts_of xs) rising) (below_amounts xs y.amount below)))

-- ---- with one item more, if it has a weight

pub rising-with : (xs : List Item) (y : Item) → IsStrictlyIncreasing (amounts_of xs)
    → All (λ (i : Item). i.amount < y.amount) xs → IsStrictlyIncreasing (amounts_of (with_weighed xs y))
rising-with xs y rising below = elim (cases_lt 0 y.weight) [
  | inl h ↦ rw (lt-ltb 0 y.weight h) (rising-push xs y rising below)
  | inr h ↦ rw (le-ltb 0 y.weight h) rising
]

pub positive-with : (xs : List Item) (y : Item) → All (λ (i : Item). 0 < i.weight) xs
    → All (λ (i : Item). 0 < i.weight) (with_weighed xs y)
positive-with xs y positive = elim (cases_lt 0 y.weight) [
  | inl h ↦ rw (lt-ltb 0 y.weight h) (All-push (λ (i : Item). 0 < i.weight) xs y positive h)
  | inr h ↦ rw (le-ltb 0 y.weight h) positive
]

pub below-with : (xs : List Item) (y : Item) (b : ℕ) → All (λ (i : Item). i.amount < y.amount) xs → y.amount < b
    → All (λ (i : Item). i.amount < b) (with_weighed xs y)
below-with xs y b below h = elim (cases_lt 0 y.weight) [
  | inl p ↦ rw (lt-ltb 0 y.weight p) (All-push (λ (i : Item). i.amount < b) xs y (λ k d q. lt_trans (below k d q) h) h)
  | inr p ↦ rw (le-ltb 0 y.weight p) (λ k d q. lt_trans (below k d q) h)
]

-- what is added up of the items, and is 0 at weight 0, grows by that of the new one
sum-with : (f : Item → ℕ) (xs : List Item) (y : Item) → (y.weight ≤ 0 → f y ≡ 0)
    → sum_by f (with_weighed xs y) ≡ sum_by f xs + f y
sum-with f xs y none = elim (cases_lt 0 y.weight) [
  | inl h ↦ rw (lt-ltb 0 y.weight h) (sum_by_push f xs y)
  | inr h ↦ rw (le-ltb 0 y.weight h) (omega (arith, none h))
]

pub weight_sum-with : (xs : List Item) (y : Item) → weight_sum (with_weighed xs y) ≡ weight_sum xs + y.weight
weight_sum-with xs y = sum-with (λ (i : Item). i.weight) xs y (λ h. omega (arith, h))

part_none : (b : Bool) (w : ℕ) → w ≤ 0 → cond b w 0 ≡ 0
part_none true w h = omega (arith, h)
part_none false w h = refl

pub weight_at-with : (xs : List Item) (y : Item) (x : ℕ)
    → weight_at (with_weighed xs y) x ≡ weight_at xs x + cond (y.amount == x) y.weight 0
weight_at-with xs y x =
    sum-with (λ (i : Item). cond (i.amount == x) i.weight 0) xs y (part_none (y.amount == x) y.weight)

-- ---- equal amounts added up

-- after i sorted items: what is made and the last item have the weights of these, and lie below those to come
pub record IsGathered (items : List Item) (i : ℕ) (made : List Item) (last : Item) : Type 0 where
  pub rising : IsStrictlyIncreasing (amounts_of made)
  pub positive : All (λ (j : Item). 0 < j.weight) made
  pub below : All (λ (j : Item). j.amount < last.amount) made
  pub above : (k : ℕ) (d : Item) → i ≤ k → k < length items → last.amount ≤ (get_or items k d).amount
  pub sum : weight_sum made + last.weight ≡ weight_sum (take i items)
  pub weights : (x : ℕ) → weight_at made x + cond (last.amount == x) last.weight 0 ≡ weight_at (take i items) x

part_plus : (b : Bool) (v w : ℕ) → cond b (v + w) 0 ≡ cond b v 0 + cond b w 0
part_plus true v w = refl
part_plus false v w = refl

module _ (items : List Item) (i : ℕ) (made : List Item) (last : Item) (d : Item) (h : i < length items)
    (so_far : IsGathered items i made last) where
  pub gathered-same : (get_or items i d).amount ≡ last.amount
      → IsGathered items (i + 1) made (record {
        amount = last.amount;
        weight = last.weight + (get_or items i d).weight;
      })
  gathered-same e = record {
    rising = so_far.rising;
    positive = so_far.positive;
    below = so_far.below;
    above = λ k dk p q. so_far.above k dk (omega (arith, p)) q;
    sum = omega (arith, so_far.sum, sum_by_more (λ (j : Item). j.weight) items i d h);
    weights = λ x.
        let one : cond (last.amount == x) (last.weight + (get_or items i d).weight) 0 ≡ cond
        (last.amount == x) last.weight 0 + cond ((get_or items i d).amount == x) (get_or items i d).weight 0 =
        part_plus (last.amount == x) last.weight (get_or items i d).weight
        ∙ ap (λ a. cond (last.amount == x) last.weight 0 + cond (a == x) (get_or items i d).weight 0) (sym e) in
        omega (arith, so_far.weights x, one, sum_by_more (λ (j : Item). cond (j.amount == x) j.weight 0) items i d h);
  }

  pub gathered-next : IsNonDecreasingBy (λ (j : Item). j.amount) items → (get_or items i d).amount ≢ last.amount
      → IsGathered items (i + 1) (with_weighed made last) (get_or items i d)
  gathered-next sorted ne = record {
    rising = rising-with made last so_far.rising so_far.below;
    positive = positive-with made last so_far.positive;
    below = below-with made last (get_or items i d).amount so_far.below
        (omega (arith, so_far.above i d (omega arith) h, ne));
    above = λ k dk p q. subst (λ (j : Item). j.amount ≤ (get_or items k dk).amount) (get_or_default items i dk d h)
        (sorted i k dk (omega (arith, p)) q);
    sum = omega (arith, so_far.sum, weight_sum-with made last, sum_by_more (λ (j : Item). j.weight) items i d h);
    weights = λ x. omega (
      arith,
      so_far.weights x,
      weight_at-with made last x,
      sum_by_more
          (λ (j : Item). cond (j.amount == x) j.weight 0) items i d h,
    );
  }

-- what weighs something has an item
pub some_items : (xs : List Item) → 0 < weight_sum xs → 0 < length xs
some_items [] h = absurd (omega (arith, h))
some_items (x ∷ xs) h = omega arith
