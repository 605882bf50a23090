-- The weighted ways of a number of claims.
use Rattle.dl_model.proofs.Common.{◌≡◌, ℕ, suc, zero, ◌*◌, ◌^◌, ◌<◌, arith, ap, ◌∙◌, mul-pos, pow-suc, one-le-pow, zero-lt-suc, pow-zero, ◌over◌, ◌*ℚ◌, over_same, over_mul, sum_pairs_same, at_zero, power, count_pairs, sum_pairs_over, ways}

pub power_ways : (w : ℕ → ℕ) (T : ℕ) → 0 < T → (n s : ℕ) → power (λ j. w j over T) n s ≡ ways w n s over T ^ n
unfolding power at_zero ways
power_ways w T h zero zero = over_same _ _ _ _ (zero-lt-suc zero) (one-le-pow zero T h) (simp pow-zero)
power_ways w T h zero (suc s) = over_same _ _ _ _ (zero-lt-suc zero) (one-le-pow zero T h) (simp pow-zero)
power_ways w T h (suc n) s = sum_pairs_same s _ _ (λ i j e. ap (λ t. w i over T *ℚ t) (power_ways w T h n j)
    ∙ over_mul _ _ _ _ h (one-le-pow n T h))
    ∙ sum_pairs_over s (T * T ^ n) (λ i j. w i * ways w n j) (mul-pos h (one-le-pow n T h))
    ∙ ap (λ d. count_pairs s (λ i j. w i * ways w n j) over d) (omega (arith, pow-suc T n))
