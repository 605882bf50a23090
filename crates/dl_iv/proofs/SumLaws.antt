-- The law that a sum of intervals holds the sums of their values.
use Rattle.dl_iv.proofs.Common.{ℕ, ◌^◌, List, sym, subst, sum_by, pow_pos, Fraction, ◌over◌, ◌+ℚ◌, ◌≤ℚ◌, sum_over, le_of_eq, Iv, sum_by-cons, EachLiesIn, nothing, then, over_zero}
use Rattle.dl_iv.proofs.Operations.{add_low, add_high}

pub sum_low : {B : ℕ} {xs : List Fraction} {intervals : List (Iv B)} → EachLiesIn xs intervals
    → sum_by (λ i. i.lo) intervals over 2 ^ B ≤ℚ sum_over xs (λ t. t)
unfolding sum_over
sum_low {B = B} nothing = le_of_eq _ _ (over_zero (2 ^ B) (pow_pos B))
sum_low {B = B} (then {x = x} {xs = xs} {interval = i} {intervals = is} first rest) =
    subst (λ n. n over 2 ^ B ≤ℚ x +ℚ sum_over xs (λ t. t)) (sym (sum_by-cons (λ i. i.lo) i is))
    (add_low (2 ^ B) (pow_pos B) _ _ _ _ first.low (sum_low rest))

pub sum_high : {B : ℕ} {xs : List Fraction} {intervals : List (Iv B)} → EachLiesIn xs intervals
    → sum_over xs (λ t. t) ≤ℚ sum_by (λ i. i.hi) intervals over 2 ^ B
unfolding sum_over
sum_high {B = B} nothing = le_of_eq _ _ (sym (over_zero (2 ^ B) (pow_pos B)))
sum_high {B = B} (then {x = x} {xs = xs} {interval = i} {intervals = is} first rest) =
    subst (λ n. x +ℚ sum_over xs (λ t. t) ≤ℚ n over 2 ^ B) (sym (sum_by-cons (λ i. i.hi) i is))
    (add_high (2 ^ B) (pow_pos B) _ _ _ _ first.high (sum_high rest))
