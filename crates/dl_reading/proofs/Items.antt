-- The items of a severity stand among the amounts of positive probability of what it means.
use Rattle.dl_reading.proofs.Common.{◌≡◌, ◌≢◌, ◌∙◌, ℕ, zero, suc, ◌+◌, ◌<◌, ◌≤◌, ◌==◌, List, [], ◌∷◌, map, filter, Bool, true, false, cond, get_or, refl, sym, ap, subst, arith, inl, inr, AllZip, All, eqb_tells, nat_tests, All-nil, All-cons, All-head, All-tail, All-weaker, All-append, All-map, sum_by-cons, map-append, Fraction, whole, ◌over◌, ◌+ℚ◌, ◌*ℚ◌, ◌<ℚ◌, cases_lt, zero_plus, zero_or_pos, lt_of_lt_of_le, le_plus, plus_comm, over_lt, Item, Sev, amounts_of, weight_at, Pairs, probability, pairs_of, shares, HasDistribution, scaled, mixture_of, support, shares_in_mixture, IsStrictlyIncreasing, All-filter, sum_by-le, AllPairs-from_increasing}
use Rattle.dl_exact.specs.Sum.{sum_over}
use Rattle.dl_exact.proofs.Laws.{lt_not_le, le_refl}
use Rattle.dl_reading.proofs.Firsts.{from_map}
use Rattle.dl_exact.proofs.Denominators.{over_zero as zero_over}
use Rattle.dl_plan.proofs.Means.{severity_total as total_pos}
use Rattle.dl_reading.proofs.Shared.{all_left, all_right}
use Rattle.dl_reading.proofs.Positive.{is_positive, positive_yes, positive_no}

-- ---- the amounts of positive probability

zero_not_pos : whole 0 <ℚ whole 0 → ⊥
zero_not_pos h = lt_not_le (whole 0) (whole 0) h (le_refl (whole 0))

no_part : (b : Bool) (p r : Fraction) → p ≡ whole 0 → cond b p (whole 0) +ℚ r ≡ r
no_part true p r e = ap (λ t. t +ℚ r) e ∙ zero_plus r
no_part false p r e = zero_plus r

pub found : (ps : Pairs) (x : ℕ) (Q : ℕ → Type 0) → All Q (support ps) → whole 0 <ℚ probability ps x → Q x
unfolding sum_over
found [] x Q all h = absurd (zero_not_pos h)
found (p ∷ ps) x Q all h = elim (zero_or_pos p.1) [
  | inl e ↦ found ps x Q (rw (positive_no p.1 e) at all)
      (subst (λ t. whole 0 <ℚ t) (no_part (p.0 == x) p.1 (probability ps x) e) h)
  | inr pos ↦
      let those : All Q (p.0 ∷ support ps) = rw (positive_yes p.1 pos) at all in
      elim (eqb_tells p.0 x) [
        | inl same ↦ subst Q same.1 (All-head Q p.0 (support ps) those)
        | inr other ↦ found ps x Q (All-tail Q p.0 (support ps) those) (rw (other.0, zero_plus (probability ps x)) at h)
      ]
]

-- ---- the weight of an item is that of its amount

-- no item has this amount
absent : (xs : List Item) (x : ℕ) → All (λ (i : Item). i.amount ≢ x) xs → weight_at xs x ≡ 0
absent xs x others = omega (
  arith,
  sum_by-le (λ (i : Item). cond (i.amount == x) i.weight 0) 0 xs (λ k d h. none (get_or xs k d) (others k d h)),
)
  where
    none : (i : Item) → i.amount ≢ x → cond (i.amount == x) i.weight 0 ≤ 0
    none i other = grind (arith, nat_tests, other)

pub none_later : (xs : List Item) (x : ℕ) → All (λ (i : Item). x < i.amount) xs → weight_at xs x ≡ 0
none_later xs x h = absent xs x (λ k d b e. omega (arith, e, h k d b))

own_part : {A : Type 0} (a : ℕ) (q none : A) → cond (a == a) q none ≡ q
own_part a q none = grind arith

-- rising amounts, by recursion
abbrev pub Rising : List Item → Type 0
Rising [] = Unit {0}
Rising (x ∷ xs) = All (λ (i : Item). x.amount < i.amount) xs × Rising xs

later : (x : Item) (xs : List Item) → IsStrictlyIncreasing (amounts_of (x ∷ xs))
    → All (λ (i : Item). x.amount < i.amount) xs
later x xs rising = from_map (λ n. x.amount < n) (λ (i : Item). i.amount) xs
    (λ k d h. AllPairs-from_increasing (amounts_of (x ∷ xs)) rising zero (suc k) d (omega arith) (omega (arith, h)))

pub rises : (xs : List Item) → IsStrictlyIncreasing (amounts_of xs) → Rising xs
rises [] h = tt
rises (x ∷ xs) h = (
  later x xs h,
  rises xs (λ k b. rw (moved k) at (h (suc k) (omega (arith, b)))),
)
  where
    moved : (k : ℕ) → suc k + 1 ≡ suc (k + 1)
    moved k = omega arith

own_weights : (xs : List Item) → Rising xs → All (λ (i : Item). weight_at xs i.amount ≡ i.weight) xs
own_weights [] h = All-nil (λ (i : Item). weight_at [] i.amount ≡ i.weight)
own_weights (x ∷ xs) h =
    All-cons (λ (i : Item). weight_at (x ∷ xs) i.amount ≡ i.weight) x xs
    (omega (arith, step x.amount, own_part x.amount x.weight 0, none_later xs x.amount h.0))
    (λ k d b. omega (arith, step (get_or xs k d).amount, other (get_or xs k d).amount (h.0 k d b), own_weights xs h.1 k d b))
  where
    step : (n : ℕ) → weight_at (x ∷ xs) n ≡ cond (x.amount == n) x.weight 0 + weight_at xs n
    step n = sum_by-cons (λ (j : Item). cond (j.amount == n) j.weight 0) x xs

    other : (n : ℕ) → x.amount < n → cond (x.amount == n) x.weight 0 ≡ 0
    other n h = grind arith

module _ (sev : Sev) (ps : Pairs) (means : HasDistribution sev ps) where
  pub item_share : All (λ (i : Item). i.weight over sev.total ≡ probability ps i.amount) sev.items
  item_share k d h = ap (λ w. w over sev.total)
      (sym (own_weights sev.items (rises sev.items sev.weighted.rising) k d h)) ∙ means (get_or sev.items k d).amount

  item_positive : All (λ (i : Item). whole 0 <ℚ probability ps i.amount) sev.items
  item_positive k d h =
      subst (λ t. whole 0 <ℚ t) (item_share k d h)
      (over_lt 0 1 (get_or sev.items k d).weight sev.total (omega arith) (total_pos sev)
      (omega (arith, sev.weighted.positive k d h)))

  -- what holds of each amount of positive probability holds of each amount of the severity
  pub items_in : (Q : ℕ → Type 0) → All Q (support ps) → All (λ (i : Item). Q i.amount) sev.items
  items_in Q all k d h = found ps (get_or sev.items k d).amount Q all (item_positive k d h)

pub support_all : (Q : ℕ → Type 0) (ps : Pairs) → All (λ pair. Q pair.0) ps → All Q (support ps)
support_all Q ps h = All-map Q (λ pair. pair.0) (filter (λ pair. is_positive pair.1) ps)
    (All-filter (λ pair. is_positive pair.1) (λ pair. Q pair.0) ps h)

-- ---- the products of a mixture

-- the products of an atom are those of its items
pub products_are : (w : Fraction) (t : ℕ) (items : List Item)
    → map (λ pair. pair.1) (scaled w (shares items t)) ≡ map (λ (i : Item). w *ℚ i.weight over t) items
products_are w t [] = refl
products_are w t (i ∷ items) = ap (λ xs. w *ℚ i.weight over t ∷ xs) (products_are w t items)

atom_products : (P : Fraction → Type 0) (w : Fraction) (sev : Sev) (ps : Pairs) → HasDistribution sev ps
    → All P (map (λ pair. w *ℚ probability ps pair.0) ps) → All P (map (λ pair. pair.1) (scaled w (pairs_of sev)))
atom_products P w sev ps means all =
    subst (All P) (sym (products_are w sev.total sev.items))
    (All-map P (λ (i : Item). w *ℚ i.weight over sev.total) sev.items
    (λ k d h. subst (λ t. P (w *ℚ t)) (sym (item_share sev ps means k d h))
    (items_in sev ps means (λ x. P (w *ℚ probability ps x))
    (support_all (λ x. P (w *ℚ probability ps x)) ps (from_map P (λ pair. w *ℚ probability ps pair.0) ps all)) k d h)))

-- what holds of each product of what the atoms mean holds of each product of the atoms
pub mixture_products : (P : Fraction → Type 0) (t : ℕ) (atoms : List Sev) (ws : List ℕ) (lists : List Pairs)
    → AllZip HasDistribution atoms lists
    → All P (shares_in_mixture (map (λ w. w over t) ws) lists) → All P (map (λ pair. pair.1) (mixture_of t atoms ws))
mixture_products P t [] ws lists means all = All-nil P
mixture_products P t (a ∷ atoms) [] lists means all = All-nil P
mixture_products P t (a ∷ atoms) (w ∷ ws) [] means all = absurd means
mixture_products P t (a ∷ atoms) (w ∷ ws) (ps ∷ lists) means all =
    let mine : List Fraction = map (λ pair. w over t *ℚ probability ps pair.0) ps in
    let others : List Fraction = shares_in_mixture (map (λ v. v over t) ws) lists in
    subst (All P) (sym (map-append (λ pair. pair.1) (scaled (w over t) (pairs_of a)) (mixture_of t atoms ws)))
    (All-append P (map (λ pair. pair.1) (scaled (w over t) (pairs_of a))) (map (λ pair. pair.1) (mixture_of t atoms ws))
    (atom_products P (w over t) a ps means.0 (all_left P mine others all))
    (mixture_products P t atoms ws lists means.1 (all_right P mine others all)))

-- ---- what exceeds an amount

more_likely : (p : ℕ × Fraction) (ps : Pairs) (x : ℕ) → whole 0 <ℚ probability ps x → whole 0 <ℚ probability (p ∷ ps) x
unfolding sum_over
more_likely p ps x h =
    let other : Fraction = cond (p.0 == x) p.1 (whole 0) in
    lt_of_lt_of_le (whole 0) (probability ps x) (probability (p ∷ ps) x) h
    (rw (plus_comm other (probability ps x)) (le_plus (probability ps x) other))

first_likely : (p : ℕ × Fraction) (ps : Pairs) → whole 0 <ℚ p.1 → whole 0 <ℚ probability (p ∷ ps) p.0
unfolding sum_over
first_likely p ps h =
    lt_of_lt_of_le (whole 0) p.1 (probability (p ∷ ps) p.0) h
    (rw (own_part p.0 p.1 (whole 0)) (le_plus p.1 (probability ps p.0)))

pub support_positive : (ps : Pairs) → All (λ x. whole 0 <ℚ probability ps x) (support ps)
support_positive [] = All-nil (λ x. whole 0 <ℚ probability [] x)
support_positive (p ∷ ps) =
    let P : ℕ → Type 0 = λ x. whole 0 <ℚ probability (p ∷ ps) x in
    let rest : All P (support ps) = All-weaker (λ x. whole 0 <ℚ probability ps x) P (more_likely p ps) (support ps)
    (support_positive ps) in
    elim (zero_or_pos p.1) [
      | inl e ↦ rw (positive_no p.1 e) rest
      | inr pos ↦ rw (positive_yes p.1 pos) (All-cons P p.0 (support ps) (first_likely p ps pos) rest)
    ]

-- where no amount of the severity exceeds a, none of what it means does
pub support_within : (sev : Sev) (ps : Pairs) → HasDistribution sev ps → (a : ℕ) → All (λ (i : Item). i.amount ≤ a) sev.items
    → All (λ x. x ≤ a) (support ps)
support_within sev ps means a all k d h = elim (cases_lt a (get_or (support ps) k d)) [
  | inr le ↦ le
  | inl lt ↦ absurd (zero_not_pos (subst (λ t. whole 0 <ℚ t)
      (sym (means (get_or (support ps) k d)) ∙ ap (λ w. w over sev.total)
      (absent sev.items (get_or (support ps) k d) (λ i e b same. omega (arith, same, lt, all i e b)))
      ∙ zero_over sev.total (total_pos sev))
      (support_positive ps k d h)))
]
