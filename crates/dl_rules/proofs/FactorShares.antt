-- The shares of units in all expected claims, and their common denominators.
use Rattle.dl_rules.proofs.Common.{◌≡◌, ◌∙◌, ℕ, ◌+◌, ◌*◌, ◌<◌, ◌≤◌, ◌&&◌, Bool, false, List, [], ◌∷◌, ◌++◌, length, map, take, get_or, inl, inr, refl, sym, ap, ap₂, subst, arith, Fraction, whole, ◌over◌, ◌*ℚ◌, ◌/ℚ◌, ◌≤ℚ◌, ◌<ℚ◌, div_times, Item, Sev, IsTooFine, drop, flat_map, lt-leb, and-false, get_or_default, flat_map_more, take-append-drop, fold-append, get_or-le-sum_by, le_of_dvd, most_weights, lcm, one_pos, one_times, times_le_cancel, times_le_both, lcm_right, le_over, over_le, over_mul, over_self, UnitOfPlan, unit_share, shared_probabilities, lcm_pos, common_from_pos, common_from_divides, severity_total, is_fine, common_multiple, times_amounts, flat_map-append}
use Rattle.dl_rules.proofs.Naming.{one_more, maps_more, maps_split}

-- ---- parts of a whole

-- a part over the whole is at most 1
pub share_within : (v n : Fraction) → whole 0 <ℚ v → n ≤ℚ v → n /ℚ v ≤ℚ whole 1
share_within v n some within =
    times_le_cancel (n /ℚ v) (whole 1) v some
    (subst (λ t. t ≤ℚ whole 1 *ℚ v) (sym (div_times n v some)) (subst (λ t. n ≤ℚ t) (sym (one_times v)) within))

num_within : (x : Fraction) → x ≤ℚ whole 1 → x.num ≤ x.den
num_within x h = omega (
  arith,
  le_over x.num x.den 1 1 x.positive (omega arith) (subst (λ y. y ≤ℚ whole 1) (sym (over_self x)) h),
)

-- a fraction of at most 1 that is refused has a large denominator
pub coarse_part : (x : Fraction) → IsTooFine x → x ≤ℚ whole 1 → most_weights < x.den
coarse_part x (inl far) h = omega (arith, far, num_within x h)
coarse_part x (inr far) h = omega (arith, far)

-- a share times the probability of an amount, from whole numbers
pub product_over : (x : Fraction) (w t : ℕ) → 0 < t → (x.num * w) over (x.den * t) ≡ x *ℚ w over t
product_over x w t pos = sym (ap (λ s. s *ℚ w over t) (sym (over_self x)) ∙ over_mul x.num x.den w t x.positive pos)

pub product_within : (x : Fraction) (w t : ℕ) → 0 < t → w ≤ t → x ≤ℚ whole 1 → x *ℚ w over t ≤ℚ whole 1
product_within x w t pos few within =
    subst (λ y. x *ℚ w over t ≤ℚ y) (one_times (whole 1))
    (times_le_both x (whole 1) (w over t) (whole 1) within (over_le w t 1 1 pos one_pos (omega (arith, few))))

pub weight_within : (sev : Sev) (k : ℕ) (item : Item) → k < length sev.items → item ≡ get_or sev.items k item
    → item.weight ≤ sev.total
weight_within sev k item inside is =
    omega (
      arith,
      ap (λ (i : Item). i.weight) is,
      get_or-le-sum_by (λ (i : Item). i.weight) sev.items k item inside,
      sev.weighted.sum,
    )

-- ---- common denominators

pub common_multiple_append : (m : ℕ) (xs ys : List Fraction) → common_multiple m (xs ++ ys)
    ≡ common_multiple (common_multiple m xs) ys
common_multiple_append m xs ys = fold-append (λ k (x : Fraction). lcm k x.den) m xs ys

pub common_multiple_within : (m : ℕ) (xs ys : List Fraction) → 0 < m → common_multiple m xs ≤ common_multiple m (xs ++ ys)
common_multiple_within m xs ys pos =
    rw (common_multiple_append m xs ys) (le_of_dvd (common_from_pos (common_multiple m xs) ys (common_from_pos m xs pos))
    (common_from_divides (common_multiple m xs) ys))

-- it is at least each denominator
pub lcm_reaches : (a b : ℕ) → 0 < a → 0 < b → b ≤ lcm a b
lcm_reaches a b first second = le_of_dvd (lcm_pos a b first second) (lcm_right a b)

-- the numbers of the first items, of one more, and of all
module _ {A : Type 0} (f : A → Fraction) (m : ℕ) (xs : List A) (i : ℕ) (x : A) (lt : i < length xs)
    (is : x ≡ get_or xs i x) where
  pub numbers_more : common_multiple m (map f (take (i + 1) xs)) ≡ lcm (common_multiple m (map f (take i xs))) (f x).den
  numbers_more = ap (common_multiple m) (sym (maps_more xs i x lt is f)) ∙ common_multiple_append m (map f (take i xs)) (f x ∷ [])

  numbers_coarse : (most : ℕ) → 0 < m → most < lcm (common_multiple m (map f (take i xs))) (f x).den
      → most < common_multiple m (map f xs)
  numbers_coarse most pos far =
      omega (
        arith,
        far,
        numbers_more,
        common_multiple_within m (map f (take (i + 1) xs)) (map f (drop (i + 1) xs)) pos,
        ap (common_multiple m) (maps_split f xs (i + 1)),
      )

-- the lists of the first units, and of one more
module _ (v : Fraction) (units : List UnitOfPlan) (i : ℕ) (u : UnitOfPlan) (lt : i < length units)
    (is : u ≡ get_or units i u) where
  abbrev claims : List UnitOfPlan → List Fraction
  claims us = map (unit_share v) us

  abbrev amounts : List UnitOfPlan → List Fraction
  amounts us = flat_map (shared_probabilities v) us

  pub amounts_more : common_multiple 1 (amounts (take (i + 1) units))
      ≡ common_multiple (common_multiple 1 (amounts (take i units))) (shared_probabilities v u)
  amounts_more =
      ap (λ us. common_multiple 1 (amounts us)) (one_more units i u lt is)
      ∙ ap (common_multiple 1) (sym (flat_map_more (shared_probabilities v) [] (take i units) u))
      ∙ common_multiple_append 1 (amounts (take i units)) (shared_probabilities v u)

  abbrev fine : ℕ → Bool
  fine most = is_fine most (claims units) && is_fine most (amounts units)

  pub claims_coarse : (most : ℕ) → most < lcm (common_multiple 1 (claims (take i units))) (unit_share v u).den
      → false ≡ fine most
  claims_coarse most far =
      sym (ap (λ b. b && is_fine most (amounts units)) (lt-leb (common_multiple 1 (claims units)) most
      (numbers_coarse (unit_share v) 1 units i u lt is most (omega arith) far)))

  pub amounts_coarse : (most : ℕ)
      → most < common_multiple (common_multiple 1 (amounts (take i units))) (shared_probabilities v u) → false ≡ fine most
  amounts_coarse most far =
      let split : amounts units ≡ amounts (take (i + 1) units) ++ amounts (drop (i + 1) units) =
      ap amounts (sym (take-append-drop (i + 1) units))
      ∙ flat_map-append (shared_probabilities v) (take (i + 1) units) (drop (i + 1) units) in
      let more : most < common_multiple 1 (amounts units) = omega (
        arith,
        far,
        amounts_more,
        common_multiple_within 1 (amounts (take (i + 1) units)) (amounts (drop (i + 1) units)) (omega arith),
        ap (common_multiple 1) split,
      ) in
      sym (ap (λ b. is_fine most (claims units) && b) (lt-leb (common_multiple 1 (amounts units)) most more)
      ∙ and-false (is_fine most (claims units)))

-- ---- the amounts of one unit, from whole numbers

module _ (share : Fraction) (sev : Sev) (within : share ≤ℚ whole 1) (xs : List Item) (same : xs ≡ sev.items)
    (n d k : ℕ) (num : n ≡ share.num) (den : d ≡ share.den) (lt : k < length xs) (none : Item)
    (m multiple : ℕ) (pos : 0 < m) (some : 0 < multiple)
    (so_far : multiple ≡ common_multiple m (map (λ (i : Item). share *ℚ i.weight over sev.total) (take k xs))) where
  abbrev item : Item
  item = get_or xs k none

  abbrev f : Item → Fraction
  f i = share *ℚ i.weight over sev.total

  is : item ≡ get_or xs k item
  is = get_or_default xs k none item lt

  pub product_is_share : (n * item.weight) over (d * sev.total) ≡ f item
  product_is_share =
      ap₂ (λ a b. (a * item.weight) over (b * sev.total)) num den
      ∙ product_over share item.weight sev.total (severity_total sev)

  part : f item ≤ℚ whole 1
  part =
      product_within share item.weight sev.total (severity_total sev)
      (weight_within sev k item (subst (λ (ys : List Item). k < length ys) same lt)
      (subst (λ (ys : List Item). item ≡ get_or ys k item) same is)) within

  pub amount_coarse : (most e : ℕ) → e ≡ (f item).den → (lcm multiple e ≤ most → ⊥)
      → common_multiple m (times_amounts share sev) ≤ most → ⊥
  amount_coarse most e is_den far few =
      let more = numbers_coarse f m xs k item lt is most pos
      (subst (λ a. most < a) (ap₂ lcm so_far is_den) (omega (arith, far))) in
      omega (arith, more, few, ap (λ (ys : List Item). common_multiple m (map f ys)) same)

  pub amount_refused : (most : ℕ) → most ≤ most_weights → IsTooFine ((n * item.weight) over (d * sev.total))
      → common_multiple m (times_amounts share sev) ≤ most → ⊥
  amount_refused most bound fine =
      amount_coarse most (f item).den refl (λ few. omega (
        arith,
        bound,
        few,
        lcm_reaches multiple (f item).den some (f item).positive,
        coarse_part (f item) (subst IsTooFine product_is_share fine) part,
      ))

  pub amount_next : (e : ℕ) → e ≡ (f item).den → lcm multiple e ≡ common_multiple m (map f (take (k + 1) xs))
  amount_next e is_den = ap₂ lcm so_far is_den ∙ sym (numbers_more f m xs k item lt is)
