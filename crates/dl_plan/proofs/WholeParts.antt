-- Fractions as whole numbers over their common denominator, and their sum.
use Rattle.dl_plan.proofs.Common.{ℕ, ◌≡◌, ◌∙◌, ◌+◌, ◌*◌, ◌/◌, ◌<◌, ◌≤◌, List, [], ◌∷◌, length, get_or, take, refl, sym, ap, ap₂, arith, All, sum_by, ◌∣◌, div-mul_cancel, All-head, All-tail, sum_by_more, Fraction, whole, ◌over◌, over_self, over_same, le_over, common_denominator, nat_tests, common_steps, take_all, sum_by-take-le, le_of_eq, sum_over_common, numerator_over}
use Rattle.dl_exact.specs.Prelude.{◌+ℚ◌, sum_over}
use Rattle.dl_plan.proofs.CommonDenominators.{common_pos, den_divides}

abbrev pub sum_of : List Fraction → Fraction
sum_of xs = sum_over xs (λ x. x)

pub share_is : (x : Fraction) (c : ℕ) → 0 < c → x.den ∣ c → numerator_over c x over c ≡ x
share_is x c h d =
    over_same (numerator_over c x) c x.num x.den h x.positive
    (turn x.num (c / x.den) x.den ∙ ap (λ k. x.num * k) (div-mul_cancel x.den d)) ∙ over_self x
  where
    turn : (n q e : ℕ) → n * q * e ≡ n * (q * e)
    turn n q e = omega arith

sums_are : (xs : List Fraction) (c : ℕ) → 0 < c → All (λ x. x.den ∣ c) xs
    → sum_of xs ≡ sum_over xs (λ x. numerator_over c x over c)
unfolding sum_over
sums_are [] c h d = refl
sums_are (x ∷ xs) c h d =
    ap₂ (λ y s. y +ℚ s) (sym (share_is x c h (All-head (λ y. y.den ∣ c) x xs d)))
    (sums_are xs c h (All-tail (λ y. y.den ∣ c) x xs d))

pub sum_is : (xs : List Fraction) → sum_of xs ≡ sum_by
    (numerator_over (common_denominator xs)) xs over common_denominator xs
sum_is xs =
    let c = common_denominator xs in
    sums_are xs c (common_pos xs) (den_divides 1 xs) ∙ sum_over_common (numerator_over c) c xs (common_pos xs)

pub one_only : (n c : ℕ) → 0 < c → n over c ≡ whole 1 → n ≡ c
one_only n c h e =
    let below : n * 1 ≤ 1 * c = le_over n c 1 1 h (omega arith) (le_of_eq (n over c) (whole 1) e) in
    let above : 1 * c ≤ n * 1 = le_over 1 1 n c (omega arith) h (le_of_eq (whole 1) (n over c) (sym e)) in
    omega (arith, below, above)

-- a sum of 1 has weights that sum to the common denominator
pub sum_one : (xs : List Fraction) (c : ℕ) → c ≡ common_denominator xs → sum_of xs ≡ whole 1
    → sum_by (numerator_over c) xs ≡ c
sum_one xs c common e = rw common (one_only _ (common_denominator xs) (common_pos xs) (sym (sum_is xs) ∙ e))

-- and back
pub one_sum : (xs : List Fraction) (c : ℕ) → c ≡ common_denominator xs → sum_by (numerator_over c) xs ≡ c
    → sum_of xs ≡ whole 1
one_sum xs c common e = grind (arith, nat_tests, common_steps, sum_is xs, common_pos xs, over_same)

pub weight_more : (xs : List Fraction) (c i : ℕ) (x : Fraction) → i < length xs → x ≡ get_or xs i x
    → sum_by (numerator_over c) (take (i + 1) xs) ≡ sum_by (numerator_over c) (take i xs) + numerator_over c x
weight_more xs c i x h is = grind (arith, nat_tests, common_steps, sum_by_more (numerator_over c) xs i x h)

-- so no part of the list has weights that sum to more
pub part_within : (xs : List Fraction) (c i : ℕ) → c ≡ common_denominator xs → sum_of xs ≡ whole 1
    → sum_by (numerator_over c) (take i xs) ≤ c
part_within xs c i common e = omega (arith, sum_one xs c common e, sum_by-take-le (numerator_over c) xs i)

pub whole_within : (xs : List Fraction) (c i : ℕ) → length xs ≤ i → c ≡ common_denominator xs → sum_of xs ≡ whole 1
    → sum_by (numerator_over c) (take i xs) ≡ c
whole_within xs c i h common e = ap (sum_by (numerator_over c)) (take_all i xs h) ∙ sum_one xs c common e
