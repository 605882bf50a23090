-- What is known of the units of a valid plan: their claims alone, and how large their means are.
use Rattle.dl_plan.proofs.Common.{ℕ, ◌≡◌, ◌*◌, ◌≤◌, List, [], ◌∷◌, sym, ap, subst, arith, All, All-head, All-tail, sum_by-cons, mul-le-mul_right, Fraction, whole, ◌≤ℚ◌, over_le, Item, Sev, weight_sum, weighted_sum, pairs_of, mean_amount, one_pos, times_le_both, whole_times, most_amount, amount_fits, expected_count, declared_mean, claims_alone, IsNewZero, IsValidUnit}
use Rattle.std.proofs.Math.Nat.{le_trans}
use Rattle.std.specs.Prelude.{Some, IfSome}
use Rattle.dl_plan.specs.declared.plan.Unit.{Unit as UnitOfPlan}
use Rattle.dl_plan.proofs.Means.{total_pos}
use Rattle.dl_plan.proofs.Shares.{mean-shares}

-- without its clause and its change
pub alone_valid : (cells : ℕ) (u : UnitOfPlan) → IsValidUnit cells u → IsValidUnit cells (claims_alone u.freq u.sev)
alone_valid cells u h = grind arith

-- a probability of no claim that is changed can be
pub new_zero : (cells : ℕ) (u : UnitOfPlan) (p : Fraction) → IsValidUnit cells u → u.zero ≡ Some p → IsNewZero u.freq p
new_zero cells u p h is = subst (λ z. IfSome z (IsNewZero u.freq)) is h.zero

-- ---- how large its mean is

pub near_in_any : (cells : ℕ) (u : UnitOfPlan) → IsValidUnit cells u
    → All (λ (i : Item). i.amount ≤ most_amount) u.sev.items
near_in_any cells u h k d inside = le_trans (h.amounts k d inside) (amount_fits cells)

sum_within : (n : ℕ) (xs : List Item) → All (λ (i : Item). i.amount ≤ n) xs → weighted_sum xs ≤ n * weight_sum xs
sum_within n [] near = omega arith
sum_within n (x ∷ xs) near =
    omega (
      arith,
      sum_by-cons (λ (i : Item). i.amount * i.weight) x xs,
      ap (λ t. n * t) (sum_by-cons (λ (i : Item). i.weight) x xs),
      mul-le-mul_right x.weight (All-head (λ (i : Item). i.amount ≤ n) x xs near),
      sum_within n xs (All-tail (λ (i : Item). i.amount ≤ n) x xs near),
    )

-- the mean amount is at most the greatest
pub amount_most : (n : ℕ) (sev : Sev) → All (λ (i : Item). i.amount ≤ n) sev.items
    → mean_amount (pairs_of sev) ≤ℚ whole n
amount_most n sev near =
    let pos = total_pos sev.items sev.total sev.weighted in
    let sums : weighted_sum sev.items ≤ n * sev.total =
    subst (λ t. weighted_sum sev.items ≤ n * t) sev.weighted.sum (sum_within n sev.items near) in
    subst (λ t. t ≤ℚ whole n) (sym (mean-shares sev.items sev.total pos))
    (over_le (weighted_sum sev.items) sev.total n 1 pos one_pos (omega (arith, sums)))

-- of at most m expected claims of at most n each
pub mean_most : (m n : ℕ) (u : UnitOfPlan) → expected_count u.freq ≤ℚ whole m
    → All (λ (i : Item). i.amount ≤ n) u.sev.items → declared_mean u ≤ℚ whole (m * n)
mean_most m n u few near = grind (arith, whole_times m n, amount_most n u.sev near, times_le_both)
