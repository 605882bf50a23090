-- Expected counts and means, as fractions.
use Rattle.dl_plan.proofs.Common.{ℕ, zero, suc, ◌≡◌, ◌∙◌, ◌+◌, ◌*◌, ◌-◌, ◌<◌, ◌≤◌, List, [], ◌∷◌, length, get_or, cond, ◌==◌, refl, sym, ap, ap₂, subst, arith, All, IsStrictlyIncreasing, All-head, All-tail, All-cons, sum_by-cons, Fraction, whole, ◌over◌, ◌*ℚ◌, ◌-ℚ◌, over_self, over_same, over_mul, over_sub, FitsFrac, Item, Sev, amounts_of, weight_sum, weight_at, weighted_sum, IsWeighted, pairs_of, mean_amount, AllPairs-from_increasing, HasPartsOf48Bits}
use Rattle.dl_plan.proofs.Weights.{weight_sum_pos}
use Rattle.dl_plan.proofs.Shares.{mean-shares}

pub admitted_fits : (x : Fraction) → HasPartsOf48Bits x → FitsFrac x
admitted_fits x h = record { num = omega (arith, h.num); den = omega (arith, h.den) }

pub total_pos : (items : List Item) (total : ℕ) → IsWeighted items total → 0 < total
total_pos items total w = subst (λ n. 0 < n) w.sum (weight_sum_pos items w.some w.positive)

pub severity_total : (sev : Sev) → 0 < sev.total
severity_total sev = total_pos sev.items sev.total sev.weighted

-- trials times a probability
pub trials_times : (t : ℕ) (q : Fraction) → (t * q.num) over q.den ≡ whole t *ℚ q
trials_times t q =
    sym (ap (λ y. whole t *ℚ y) (sym (over_self q)) ∙ over_mul t 1 q.num q.den (omega arith) q.positive
    ∙ over_same (t * q.num) (1 * q.den) (t * q.num) q.den (omega (arith, q.positive)) q.positive (omega arith))

-- the mean of a count times that of a severity
pub mean_over : (x : Fraction) (sev : Sev) → (x.num * weighted_sum sev.items) over (x.den * sev.total)
    ≡ x *ℚ mean_amount (pairs_of sev)
mean_over x sev = grind (arith, total_pos sev.items sev.total sev.weighted, over_self x, mean-shares, over_mul)

pub positive_share : (w t : ℕ) → 0 < t → (t - w) over t ≡ whole 1 -ℚ w over t
positive_share w t h = sym (over_sub 1 1 w t (omega arith) h
    ∙ over_same (1 * t - w * 1) (1 * t) (t - w) t (omega (arith, h)) h (ap₂ (λ a b. a * b) (omega arith) (omega arith)))

-- ---- the weight of amount 0

none_at_zero : (xs : List Item) → All (λ (i : Item). 0 < i.amount) xs → weight_at xs 0 ≡ 0
none_at_zero [] h = refl
none_at_zero (x ∷ xs) h =
    sum_by-cons (λ (i : Item). cond (i.amount == 0) i.weight 0) x xs
    ∙ ap₂ (λ a b. a + b) (not_zero x.amount x.weight (All-head (λ (i : Item). 0 < i.amount) x xs h))
    (none_at_zero xs (All-tail (λ (i : Item). 0 < i.amount) x xs h))
  where
    not_zero : (a w : ℕ) → 0 < a → cond (a == 0) w 0 ≡ 0
    not_zero a w p = grind arith

later_above : (x : Item) (xs : List Item) → IsStrictlyIncreasing (amounts_of (x ∷ xs))
    → All (λ (i : Item). 0 < i.amount) xs
later_above x xs rising = go xs (λ k d h. AllPairs-from_increasing (amounts_of (x ∷ xs)) rising zero (suc k) d
    (omega arith) (omega (arith, h)))
  where
    go : (ys : List Item) → All (λ n. x.amount < n) (amounts_of ys) → All (λ (i : Item). 0 < i.amount) ys
    go [] h = λ k d p. absurd (omega (arith, p))
    go (y ∷ ys) h =
        All-cons (λ (i : Item). 0 < i.amount) y ys
        (omega (arith, All-head (λ n. x.amount < n) y.amount (amounts_of ys) h))
        (go ys (All-tail (λ n. x.amount < n) y.amount (amounts_of ys) h))

pub zero_first : (x : Item) (xs : List Item) → IsStrictlyIncreasing (amounts_of (x ∷ xs))
    → weight_at (x ∷ xs) 0 ≡ cond (x.amount == 0) x.weight 0
zero_first x xs rising =
    sum_by-cons (λ (i : Item). cond (i.amount == 0) i.weight 0) x xs
    ∙ ap (λ n. cond (x.amount == 0) x.weight 0 + n) (none_at_zero xs (later_above x xs rising)) ∙ omega arith

part_of_weight : (a w : ℕ) → cond (a == 0) w 0 ≤ w
part_of_weight a w = grind arith

pub weight_at-le : (xs : List Item) → weight_at xs 0 ≤ weight_sum xs
weight_at-le [] = omega arith
weight_at-le (x ∷ xs) =
    omega (
      arith,
      sum_by-cons (λ (i : Item). cond (i.amount == 0) i.weight 0) x xs,
      sum_by-cons (λ (i : Item). i.weight) x xs,
      weight_at-le xs,
      part_of_weight x.amount x.weight,
    )

pub zero_yes : (xs : List Item) (d : Item) → 0 < length xs → IsStrictlyIncreasing (amounts_of xs)
    → (get_or xs zero d).amount ≡ 0 → (get_or xs zero d).weight ≡ weight_at xs 0
zero_yes [] d some rising e = absurd (omega (arith, some))
zero_yes (x ∷ xs) d some rising e = grind (arith, zero_first x xs rising)

pub zero_no : (xs : List Item) (d : Item) → 0 < length xs → IsStrictlyIncreasing (amounts_of xs)
    → ((get_or xs zero d).amount ≡ 0 → ⊥) → 0 ≡ weight_at xs 0
zero_no [] d some rising e = absurd (omega (arith, some))
zero_no (x ∷ xs) d some rising e = grind (arith, zero_first x xs rising)
