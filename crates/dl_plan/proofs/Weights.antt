-- Lists of weights and their greatest common divisor.
use Rattle.dl_plan.proofs.Common.{ℕ, ◌≡◌, ◌∙◌, ◌*◌, ◌/◌, ◌<◌, ◌≤◌, ◌^◌, List, [], ◌∷◌, length, map, fold, true, false, cond, ◌==◌, refl, sym, ap, ap₂, subst, arith, inl, inr, ◌++◌, suc, zero, ◌+◌, max, get_or, take, div-mul_cancel, ◌∣◌, cases_lt, dvd_trans, dvd_refl, All, IsStrictlyIncreasing, All-cons, All-nil, All-tail, sum_by-cons, gcd, ◌over◌, gcd_is, over_same, Item, amounts_of, weight_sum, weight_at, common_weight, divided_by, IsWeighted, greatest, mul-div_cancel, pos_of_dvd_of_pos, eq_of_mul-eq-mul_right, div-le_self, length-map, map-map, euclid, gcd-scale, pos_of_mul}
use Rattle.std.proofs.Common.{Bool, add-one}

le_zero : {n : ℕ} → n ≤ 0 → n ≡ 0
le_zero h = omega (arith, h)

nought_times : (k : ℕ) → 0 * k ≡ 0
nought_times k = omega arith

one_times : (k : ℕ) → k ≡ 1 * k
one_times k = omega arith

cancel : (a b k : ℕ) → 0 < k → a * k ≡ b * k → a ≡ b
cancel a b k h e = eq_of_mul-eq-mul_right k h a b e

swap_in : (a b k : ℕ) → a * (b * k) ≡ a * k * b
swap_in a b k = omega arith

-- the item with g times its weight
abbrev pub times : ℕ → Item → Item
times g item = record { amount = item.amount; weight = item.weight * g }

pub weight_sum-times : (g : ℕ) (xs : List Item) → weight_sum (map (times g) xs) ≡ weight_sum xs * g
weight_sum-times g [] = omega arith
weight_sum-times g (x ∷ xs) =
    rw (
      sum_by-cons (λ (i : Item). i.weight) (times g x) (map (times g) xs),
      sum_by-cons (λ (i : Item). i.weight) x xs,
      weight_sum-times g xs,
    ) (omega arith)

weight_of_one : (b : Bool) (w g : ℕ) → cond b (w * g) 0 ≡ cond b w 0 * g
weight_of_one true w g = refl
weight_of_one false w g = omega arith

pub weight_at-times : (g : ℕ) (xs : List Item) (y : ℕ) → weight_at (map (times g) xs) y ≡ weight_at xs y * g
weight_at-times g [] y = omega arith
weight_at-times g (x ∷ xs) y =
    let f : Item → ℕ = λ i. cond (i.amount == y) i.weight 0 in
    rw (
      sum_by-cons f (times g x) (map (times g) xs),
      sum_by-cons f x xs,
      weight_at-times g xs y,
      weight_of_one (x.amount == y) x.weight g,
    ) (omega arith)

-- the divisor of d and the weights
abbrev pub common_from : ℕ → List Item → ℕ
common_from d xs = fold (λ c (i : Item). gcd c i.weight) d xs

pub common-times : (g d : ℕ) (xs : List Item) → 0 < g → common_from (d * g) (map (times g) xs) ≡ common_from d xs * g
common-times g d [] h = refl
common-times g d (x ∷ xs) h = grind (arith, gcd-scale d x.weight g h, common-times g (gcd d x.weight) xs h)

pub common-divides_start : (d : ℕ) (xs : List Item) → common_from d xs ∣ d
common-divides_start d [] = dvd_refl d
common-divides_start d (x ∷ xs) = dvd_trans _ (common-divides_start (gcd d x.weight) xs) (gcd_is d x.weight).0

pub common-divides : (d : ℕ) (xs : List Item) → All (λ (i : Item). common_from d xs ∣ i.weight) xs
common-divides d [] = All-nil (λ (i : Item). d ∣ i.weight)
common-divides d (x ∷ xs) =
    All-cons (λ (i : Item). common_from d (x ∷ xs) ∣ i.weight) x xs
    (dvd_trans _ (common-divides_start (gcd d x.weight) xs) (gcd_is d x.weight).1)
    (common-divides (gcd d x.weight) xs)

pub common_pos : (xs : List Item) → 0 < length xs → All (λ (i : Item). 0 < i.weight) xs → 0 < common_weight xs
common_pos [] some positive = absurd (omega (arith, some))
common_pos (x ∷ xs) some positive = pos_of_dvd_of_pos (common-divides 0 (x ∷ xs) 0 x (omega arith))
    (positive 0 x (omega arith))

-- a common divisor taken out and put back changes nothing
pub times-divided : (g : ℕ) (xs : List Item) → All (λ (i : Item). g ∣ i.weight) xs
    → map (times g) (map (divided_by g) xs) ≡ xs
times-divided g [] d = refl
times-divided g (x ∷ xs) d =
    ap₂ (λ (w : ℕ) (ys : List Item). record { amount = x.amount; weight = w } ∷ ys)
    (div-mul_cancel g (d 0 x (omega arith)))
    (times-divided g xs (All-tail (λ (i : Item). g ∣ i.weight) x xs d))

pub weight_sum_pos : (xs : List Item) → 0 < length xs → All (λ (i : Item). 0 < i.weight) xs → 0 < weight_sum xs
weight_sum_pos [] some positive = absurd (omega (arith, some))
weight_sum_pos (x ∷ xs) some positive = omega (
  arith,
  sum_by-cons (λ (i : Item). i.weight) x xs,
  positive 0 x (omega arith),
)

divided_pos : (g : ℕ) (xs : List Item) → All (λ (i : Item). g ∣ i.weight) xs → All (λ (i : Item). 0 < i.weight) xs
    → All (λ (i : Item). 0 < i.weight) (map (divided_by g) xs)
divided_pos g [] d positive = All-nil (λ (i : Item). 0 < i.weight)
divided_pos g (x ∷ xs) d positive =
    let back : x.weight / g * g ≡ x.weight = div-mul_cancel g (d 0 x (omega arith)) in
    let one : 0 < x.weight / g = elim (cases_lt 0 (x.weight / g)) [
      | inl h ↦ h
      | inr h ↦ absurd (omega (arith, positive 0 x (omega arith), back, ap (λ q. q * g) (le_zero h)))
    ] in
    All-cons (λ (i : Item). 0 < i.weight) (divided_by g x) (map (divided_by g) xs) one
    (divided_pos g xs (All-tail (λ (i : Item). g ∣ i.weight) x xs d)
    (All-tail (λ (i : Item). 0 < i.weight) x xs positive))

module _ (xs : List Item) (some : 0 < length xs) (positive : All (λ (i : Item). 0 < i.weight) xs) where
  abbrev g : ℕ
  g = common_weight xs

  abbrev ys : List Item
  ys = map (divided_by g) xs

  g_pos : 0 < g
  g_pos = common_pos xs some positive

  back : map (times g) ys ≡ xs
  back = times-divided g xs (common-divides 0 xs)

  sum_back : weight_sum ys * g ≡ weight_sum xs
  sum_back = sym (weight_sum-times g ys) ∙ ap weight_sum back

  pub total_is : weight_sum xs / g ≡ weight_sum ys
  total_is = ap (λ n. n / g) (sym sum_back) ∙ mul-div_cancel (weight_sum ys) g_pos

  lowest : common_weight ys ≡ 1
  lowest = grind (arith, common-times g 0 ys g_pos, nought_times g, one_times g, back, cancel, g_pos)

  -- the greatest common divisor taken out
  pub divided_is : IsStrictlyIncreasing (amounts_of xs) → weight_sum xs ≤ 2 ^ 40 → IsWeighted ys (weight_sum xs / g)
  divided_is rising within = record {
    some = rw (length-map xs (divided_by g)) some;
    rising = subst IsStrictlyIncreasing (sym (map-map (λ (i : Item). i.amount) (divided_by g) xs)) rising;
    positive = divided_pos g xs (common-divides 0 xs) positive;
    sum = sym total_is;
    within = omega (arith, div-le_self (weight_sum xs) g, within);
    lowest = lowest;
  }

  pub divided_means : (y : ℕ) → weight_at ys y over (weight_sum xs / g) ≡ weight_at xs y over weight_sum xs
  divided_means y =
      let at_back : weight_at ys y * g ≡ weight_at xs y = sym (weight_at-times g ys y)
      ∙ ap (λ zs. weight_at zs y) back in
      let total : 0 < weight_sum xs = weight_sum_pos xs some positive in
      let part : 0 < weight_sum ys = pos_of_mul (weight_sum ys) g (subst (λ n. 0 < n) (sym sum_back) total) in
      ap (λ n. weight_at ys y over n) total_is
      ∙ over_same (weight_at ys y) (weight_sum ys) (weight_at xs y) (weight_sum xs) part total
      (ap (λ n. weight_at ys y * n) (sym sum_back) ∙ swap_in (weight_at ys y) (weight_sum ys) g
      ∙ ap (λ n. n * weight_sum ys) at_back)

  -- the same of items and a total that were computed
  pub made_weighted : {items : List Item} {common sum : ℕ} → items ≡ map (divided_by common) xs → common ≡ g
      → sum ≡ weight_sum xs → IsStrictlyIncreasing (amounts_of xs) → weight_sum xs ≤ 2 ^ 40
      → IsWeighted items (sum / common)
  made_weighted made by all rising within = rw (made, by, all) (divided_is rising within)

  pub made_means : {items : List Item} {common sum : ℕ} → items ≡ map (divided_by common) xs → common ≡ g
      → sum ≡ weight_sum xs → (y : ℕ) → weight_at items y over (sum / common) ≡ weight_at xs y over weight_sum xs
  made_means made by all y = rw (made, by, all) (divided_means y)

-- ---- the greatest amount

greatest_front : (items : List Item) (i : ℕ) (d : Item) → i < length items
    → greatest (take (suc i) items) ≡ max (get_or items i d).amount (greatest (take i items))
greatest_front [] i d inside = absurd (omega arith)
greatest_front (item ∷ items) zero d inside = refl
greatest_front (item ∷ items) (suc i) d inside = omega (arith, greatest_front items i d (omega arith))

-- the greatest amount so far, and the next
pub greatest_more : (items : List Item) (i : ℕ) (d : Item) → i < length items
    → greatest (take (i + 1) items) ≡ max (get_or items i d).amount (greatest (take i items))
greatest_more items i d inside = ap (λ k. greatest (take k items)) (add-one i) ∙ greatest_front items i d inside

-- an item is at most a bound that all have
pub greatest_within : (items : List Item) (most : ℕ)
    → ((i : ℕ) (d : Item) → i < length items → (get_or items i d).amount ≤ most) → greatest items ≤ most
greatest_within [] most each = omega arith
greatest_within (item ∷ items) most each = omega (
  arith,
  each 0 item (omega arith),
  greatest_within items most (λ i d h. each (suc i) d (omega arith)),
)

none_and_one : gcd 0 1 ≡ 1
unfolding gcd euclid
none_and_one = refl

-- one amount alone, with the weight 1
pub one_weighted : (amount : ℕ) → IsWeighted (record { amount = amount; weight = 1 } ∷ []) 1
one_weighted amount = grind (arith, lowest, none_and_one)
