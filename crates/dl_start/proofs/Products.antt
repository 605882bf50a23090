-- The probability of cell 0: products, and powers of weights.
use Rattle.dl_start.proofs.Common.{◌≡◌, ℕ, suc, zero, ◌+◌, ◌*◌, ◌/◌, ◌^◌, ◌<◌, ◌≤◌, arith, sym, mul-pos, mul-le-mul_right, pow-suc, div-mul-le_self, pow-add, zero-lt-suc, lt-div-mul-add, Fraction, ◌over◌, ◌*ℚ◌, ◌≤ℚ◌, whole, sum_to, over_le, over_mul, one_times, le_refl, le_of_eq, le_of_mul-le-mul_right, one-le-pow, pow-le-pow_right, AtMost, AtLeast, Holds, Series, times, convolve, at_most_wider, at_least_wider, at_most_times, at_least_times, sum_rises_to, most_from, least_from, cauchy_low, cauchy_high}

pub two_le : (i j : ℕ) → i ≤ j → 2 ^ i ≤ 2 ^ j
two_le i j h = pow-le-pow_right (zero-lt-suc 1) h

-- ---- halving

pub half_low : (l T p P : ℕ) → l * T ≤ p * (P * 2) → l / 2 * T ≤ p * P
half_low l T p P h =
    le_of_mul-le-mul_right {k = 2} (omega (arith, mul-le-mul_right T (div-mul-le_self l 2), h)) (zero-lt-suc 1)

pub half_high : (l T p P : ℕ) → p * (P * 2) ≤ l * T → p * P ≤ (l + 1) / 2 * T
half_high l T p P h =
    let r : l ≤ (l + 1) / 2 * 2 = omega (arith, lt-div-mul-add {a = l + 1} {b = 2} (zero-lt-suc 1)) in
    le_of_mul-le-mul_right {k = 2} (omega (arith, mul-le-mul_right T r, h)) (zero-lt-suc 1)

pub half_top : (h e d : ℕ) → e ≡ suc d → h ≤ 2 ^ e → (h + 1) / 2 ≤ 2 ^ d
half_top h e d q p = grind (arith, pow-suc 2 d)

-- ---- the product

pub two_pos : (e : ℕ) → 0 < 2 ^ e
two_pos e = one-le-pow e 2 (zero-lt-suc 1)

one_rises : (n : ℕ) → whole 1 ≤ℚ whole 1
one_rises n = le_refl _

pub start_times : (v w : ℕ → Fraction) (l h e l' h' e' x y d : ℕ)
    → Holds (λ N. whole 1) (λ N. sum_to N v) (l over 2 ^ e) (h over 2 ^ e)
    → Holds (λ N. whole 1) (λ N. sum_to N w) (l' over 2 ^ e') (h' over 2 ^ e')
    → x * 2 ^ (e + e') ≤ l * l' * 2 ^ d → h * h' * 2 ^ d ≤ y * 2 ^ (e + e')
    → Holds (λ N. whole 1) (λ N. sum_to N (convolve v w)) (x over 2 ^ d) (y over 2 ^ d)
start_times v w l h e l' h' e' x y d H K p q =
    let V : Series = λ N. sum_to N v in
    let W : Series = λ N. sum_to N w in
    let one : Series = λ N. whole 1 in
    let low : AtLeast (times one one) (times V W) (l over 2 ^ e *ℚ l' over 2 ^ e') =
    at_least_times one V one W _ _ one_rises one_rises H.0 K.0 in
    let high : AtMost (times one one) (times V W) (h over 2 ^ e *ℚ h' over 2 ^ e') =
    at_most_times one V one W _ _ (sum_rises_to v) (sum_rises_to w) H.1 K.1 in
    let P : ℕ = 2 ^ e * 2 ^ e' in
    let Pp : 0 < P = mul-pos (two_pos e) (two_pos e') in
    let a : x over 2 ^ d ≤ℚ l over 2 ^ e *ℚ l' over 2 ^ e' =
    rw (over_mul l (2 ^ e) l' (2 ^ e') (two_pos e) (two_pos e'))
    (over_le _ _ _ _ (two_pos d) Pp (rw (← pow-add 2 e e') p)) in
    let b : h over 2 ^ e *ℚ h' over 2 ^ e' ≤ℚ y over 2 ^ d =
    rw (over_mul h (2 ^ e) h' (2 ^ e') (two_pos e) (two_pos e'))
    (over_le _ _ _ _ Pp (two_pos d) (rw (← pow-add 2 e e') q)) in
    let C : Series = λ N. sum_to N (convolve v w) in
    let same : one zero ≡ times one one zero = sym (one_times (whole 1)) in (
      least_from (times one one) (times V W) one C (x over 2 ^ d) (λ n. (n, le_of_eq _ _ (sym same)))
          (λ n. (n, cauchy_low n v w)) (at_least_wider (times one one) (times V W) _ _ low a),
      most_from (times one one) (times V W) one C (y over 2 ^ d) (λ n. (n, le_of_eq _ _ same))
          (λ n. (n + n, cauchy_high n v w)) (at_most_wider (times one one) (times V W) _ _ high b),
    )
