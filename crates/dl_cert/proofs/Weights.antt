-- The weight of an amount among items whose amounts rise.
use Rattle.dl_cert.proofs.Common.{ℕ, zero, suc, ◌≡◌, ◌≢◌, ◌+◌, ◌-◌, ◌*◌, ◌<◌, ◌≤◌, ◌∙◌, inl, inr, refl, sym, ap, subst, arith, cond, List, [], ◌∷◌, length, get_or, ◌^◌, Bool, true, false, mul-le-mul_left, mul-le-mul, add-mul, sub-add_cancel, cases_lt, cases_eq, eq-eqb, ne_eqb, get_or-map, get_or_default, length-map, sum_by-le-sum_by, Item, amounts_of, weight_at, weight_sum, ◌==◌, zero-add, IsStrictlyIncreasing, AllPairs-from_increasing, weight_at-cons}

-- an amount that no item has
weight_none : (items : List Item) (y : ℕ) → ((k : ℕ) (d : Item) → k < length items → (get_or items k d).amount ≢ y)
    → weight_at items y ≡ 0
weight_none [] y other = refl
weight_none (item ∷ items) y other =
    rw (weight_at-cons item items y, ne_eqb item.amount y (other 0 item (omega arith)), zero-add)
    (weight_none items y (λ k d inside. other (suc k) d (omega (arith, inside))))

-- an amount that one item alone has
weight_only : (items : List Item) (y p : ℕ) (d : Item) → p < length items → (get_or items p d).amount ≡ y
    → ((k : ℕ) (e : Item) → k < length items → k ≢ p → (get_or items k e).amount ≢ y)
    → weight_at items y ≡ (get_or items p d).weight
weight_only [] y p d inside is other = absurd (omega (arith, inside))
weight_only (item ∷ items) y zero d inside is other =
    rw (
      weight_at-cons item items y,
      eq-eqb item.amount y is,
      weight_none items y (λ k e within. other (suc k) e (omega (arith, within)) (λ h. absurd (omega (arith, h)))),
    ) (omega arith)
weight_only (item ∷ items) y (suc p) d inside is other =
    rw (
      weight_at-cons item items y,
      ne_eqb item.amount y (other 0 item (omega arith) (λ h. absurd (omega (arith, h)))),
      zero-add,
    ) (weight_only items y p d (omega (arith, inside)) is
    (λ k e within differs. other (suc k) e (omega (arith, within)) (λ h. differs (omega (arith, h)))))

module _ (items : List Item) (rising : IsStrictlyIncreasing (amounts_of items)) where
  rise : (i j : ℕ) (d e : Item) → i < j → j < length items → (get_or items i d).amount < (get_or items j e).amount
  rise i j d e less inside =
      let long : length (amounts_of items) ≡ length items = length-map items (λ item. item.amount) in
      let pairs = AllPairs-from_increasing (amounts_of items) rising i j 0 less (omega (arith, inside, long)) in
      let at_i : get_or (amounts_of items) i 0 ≡ (get_or items i d).amount =
      get_or-map (λ (item : Item). item.amount) items i d 0 (omega (arith, less, inside)) in
      let at_j : get_or (amounts_of items) j 0 ≡ (get_or items j e).amount =
      get_or-map (λ (item : Item). item.amount) items j e 0 inside in
      omega (arith, pairs, at_i, at_j)

  module _ (y r : ℕ) (before : (k : ℕ) (d : Item) → k < r → (get_or items k d).amount ≤ y)
      (after : (k : ℕ) (d : Item) → r ≤ k → k < length items → y < (get_or items k d).amount) where
    pub none_reached : r ≡ 0 → weight_at items y ≡ 0
    none_reached none =
        weight_none items y (λ k d inside e. absurd (omega (arith, after k d (omega (arith, none)) inside, e)))

    -- the last item that is reached
    module _ (p : ℕ) (is : suc p ≡ r) (bound : r ≤ length items) (d : Item) where
      others : (k : ℕ) (e : Item) → k < length items → k ≢ p → (get_or items k e).amount ≢ y
      others k e inside differs h = elim (cases_lt k p) [
        | inl below ↦ absurd (omega (
          arith,
          rise k p e d below (omega (arith, is, bound)),
          before p d (omega (arith, is)),
          h,
        ))
        | inr above ↦ absurd (omega (arith, after k e (omega (arith, above, differs, is)) inside, h))
      ]

      pub last_reached : (get_or items p d).amount ≡ y → weight_at items y ≡ (get_or items p d).weight
      last_reached e = weight_only items y p d (omega (arith, is, bound)) e others

      pub not_reached : (get_or items p d).amount ≢ y → weight_at items y ≡ 0
      not_reached differs = weight_none items y (λ k e inside h. elim (cases_eq k p) [
        | inl same ↦ differs (subst (λ n. (get_or items n d).amount ≡ y) same (get_same k e inside ∙ h))
        | inr other ↦ others k e inside other h
      ])
        where
          get_same : (k : ℕ) (e : Item) → k < length items → (get_or items k d).amount ≡ (get_or items k e).amount
          get_same k e inside = ap (λ (i : Item). i.amount) (get_or_default items k d e inside)

-- ---- one trial

pub weight_within : (items : List Item) (y : ℕ) → weight_at items y ≤ weight_sum items
weight_within items y =
    sum_by-le-sum_by (λ (i : Item). cond (i.amount == y) i.weight 0) (λ (i : Item). i.weight) items
    (λ i. part (i.amount == y) i.weight)
  where
    part : (b : Bool) (w : ℕ) → cond b w 0 ≤ w
    part true w = omega arith
    part false w = omega arith

pub trial_within : (num den w total : ℕ) → num ≤ den → w ≤ total → (den - num) * total + num * w ≤ den * total
trial_within num den w total within least =
    let e : (den - num) * total + num * total ≡ den * total = sym (add-mul (den - num) num total)
    ∙ ap (λ n. n * total) (sub-add_cancel within) in
    omega (arith, e, mul-le-mul_left num least)

pub claim_within : (num den w total : ℕ) → num ≤ den → w ≤ total → num * w ≤ den * total
claim_within num den w total within least = mul-le-mul within least

pub parts_small : (den total : ℕ) → den < 2 ^ 48 → total ≤ 2 ^ 40 → den * total < 2 ^ 88
parts_small den total small few =
    let least : den ≤ 2 ^ 48 - 1 = omega (arith, small) in
    let product : den * total ≤ (2 ^ 48 - 1) * 2 ^ 40 = mul-le-mul least few in
    omega (arith, product)
