-- Items in any order give a severity: equal amounts are added up, rising.
use Rattle.dl_reading.proofs.Common.{ℕ, zero, suc, ◌≡◌, ◌∙◌, ◌+◌, ◌/◌, ◌<◌, ◌≤◌, ◌^◌, ◌==◌, List, [], ◌∷◌, map, length, cond, refl, sym, ap₂, subst, arith, inl, inr, All, All-nil, eqb_tells, nat_tests, sum_by-cons, ◌over◌, Item, Sev, amounts_of, weight_sum, weight_at, IsStrictlyIncreasing, count_below, below_none, below_plus, below_same, common_weight, divided_by, probability_of, divided_is, divided_means, with_weighed, rising-with, positive-with, below-with, weight_sum-with, weight_at-with, some_items}

abbrev at_amount : List Item → ℕ → Item
at_amount items n = record { amount = n; weight = weight_at items n }

-- each amount below n that has a weight
abbrev table : List Item → ℕ → List Item
table items zero = []
table items (suc n) = with_weighed (table items n) (at_amount items n)

below : (items : List Item) (n : ℕ) → All (λ (i : Item). i.amount < n) (table items n)
below items zero = All-nil (λ (i : Item). i.amount < 0)
below items (suc n) = below-with (table items n) (at_amount items n) (suc n) (below items n) (omega arith)

rising : (items : List Item) (n : ℕ) → IsStrictlyIncreasing (amounts_of (table items n))
rising items zero = λ k h. absurd (omega (arith, h))
rising items (suc n) = rising-with (table items n) (at_amount items n) (rising items n) (below items n)

positive : (items : List Item) (n : ℕ) → All (λ (i : Item). 0 < i.weight) (table items n)
positive items zero = All-nil (λ (i : Item). 0 < i.weight)
positive items (suc n) = positive-with (table items n) (at_amount items n) (positive items n)

table_sum : (items : List Item) (n : ℕ) → weight_sum (table items n) ≡ count_below n (weight_at items)
unfolding count_below
table_sum items zero = refl
table_sum items (suc n) = rw (weight_sum-with (table items n) (at_amount items n), table_sum items n)

table_at : (items : List Item) (n x : ℕ)
    → weight_at (table items n) x ≡ count_below n (λ k. cond (k == x) (weight_at items k) 0)
unfolding count_below
table_at items zero x = refl
table_at items (suc n) x = rw (weight_at-with (table items n) (at_amount items n) x, table_at items n x)

-- one place alone counts
one_place : (n x : ℕ) (f : ℕ → ℕ) → (n ≤ x → f x ≡ 0) → count_below n (λ k. cond (k == x) (f k) 0) ≡ f x
unfolding count_below
one_place zero x f past = sym (past (omega arith))
one_place (suc n) x f past = elim (eqb_tells n x) [
  | inl same ↦ rw (same.0, same.1) (omega (arith, below_none x (λ k. cond (k == x) (f k) 0) (λ k lt. grind arith)))
  | inr other ↦ rw other.0 (omega (arith, one_place n x f (λ le. past (omega (arith, le, other.1)))))
]

-- past all amounts
abbrev beyond : List Item → ℕ
beyond [] = 0
beyond (i ∷ items) = suc i.amount + beyond items

none_beyond : (items : List Item) (x : ℕ) → beyond items ≤ x → weight_at items x ≡ 0
none_beyond [] x h = refl
none_beyond (i ∷ items) x h =
    let none : cond (i.amount == x) i.weight 0 ≡ 0 = grind arith in
    omega (arith, none, sum_by-cons (λ (j : Item). cond (j.amount == x) j.weight 0) i items, none_beyond items x (omega (arith, h)))

all_summed : (items : List Item) (n : ℕ) → beyond items ≤ n → count_below n (weight_at items) ≡ weight_sum items
all_summed [] n h = below_none n (weight_at []) (λ k lt. refl)
all_summed (i ∷ items) n h =
    let own : ℕ → ℕ = λ k. cond (k == i.amount) i.weight 0 in
    let each : (k : ℕ) → weight_at (i ∷ items) k ≡ own k + weight_at items k =
    λ k. sum_by-cons (λ (j : Item). cond (j.amount == k) j.weight 0) i items ∙ grind (arith, nat_tests) in
    omega (
      arith,
      below_same n (weight_at (i ∷ items)) (λ k. own k + weight_at items k) (λ k lt. each k),
      below_plus n own (weight_at items),
      one_place n i.amount (λ k. i.weight) (λ le. absurd (omega (arith, h, le))),
      all_summed items n (omega (arith, h)),
      sum_by-cons (λ (j : Item). j.weight) i items,
    )

module _ (items : List Item) (some : 0 < weight_sum items) (within : weight_sum items ≤ 2 ^ 40) where
  abbrev made : List Item
  made = table items (beyond items)

  made_sum : weight_sum made ≡ weight_sum items
  made_sum = table_sum items (beyond items) ∙ all_summed items (beyond items) (omega arith)

  made_some : 0 < length made
  made_some = some_items made (subst (λ n. 0 < n) (sym made_sum) some)

  -- a severity of these weights
  pub gathered : (sev : Sev) × ((x : ℕ) → probability_of sev x ≡ weight_at items x over weight_sum items)
  gathered = (
    record {
      items = map (divided_by (common_weight made)) made;
      total = weight_sum made / common_weight made;
      weighted = divided_is made made_some (positive items (beyond items)) (rising items (beyond items))
          (subst (λ n. n ≤ 2 ^ 40) (sym made_sum) within);
    },
    λ x. divided_means made made_some (positive items (beyond items)) x ∙ ap₂ (λ n d. n over d)
        (table_at items (beyond items) x ∙ one_place (beyond items) x (weight_at items) (none_beyond items x)) made_sum,
  )
