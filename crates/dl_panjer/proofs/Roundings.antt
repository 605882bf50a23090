-- Terms rounded down and up stay near each other, and fall as fast as 1 / (2^n * n!).
use Rattle.dl_panjer.proofs.Common.{ℕ, suc, zero, ◌+◌, ◌*◌, ◌/◌, ◌^◌, ◌<◌, ◌≤◌, arith, ap, mul-pos, mul-le-mul_left, mul-le-mul_right, le_of_mul-le-mul_right, zero-lt-suc, lt-div-mul-add, div_ceil_times, div_ceil, add-one}

-- the next terms down and up from two that are at most 4 apart
pub near_next : (l h n d k : ℕ) → 0 < d → n + n ≤ d → 0 < k → h ≤ l + 4 → div_ceil (h * n) (d * k) ≤ l * n / (d * k) + 4
near_next l h n d k pos half one near =
    let e : ℕ = d * k in
    let e_pos : 0 < e = mul-pos pos one in
    let wide : d * 1 ≤ d * k = mul-le-mul_left d one in
    let up = (div_ceil_times (h * n) e e_pos).1 in
    let down : l * n < l * n / e * e + e = lt-div-mul-add {a = l * n} {b = e} e_pos in
    let apart : h * n ≤ (l + 4) * n = mul-le-mul_right n near in
    le_of_mul-le-mul_right {k = e} (omega (arith, up, down, apart, half, wide)) e_pos

-- 2^n * n!
unfoldable pub fall : ℕ → ℕ
fall zero = 1
fall (suc n) = 2 * suc n * fall n

-- past 18 terms no whole unit of 2^63 is left
pub fall_far : 2 ^ 63 ≤ fall 18
unfolding fall
fall_far = omega arith

-- a term rounded up, from T on, is at most 2 units above T over 2^n * n!
pub fall_next : (T h n d k : ℕ) → 0 < d → n + n ≤ d → h * fall k ≤ T + 2 * fall k
    → div_ceil (h * n) (d * suc k) * fall (suc k) ≤ T + 2 * fall (suc k)
unfolding fall
fall_next T h n d k pos half bound =
    let t : ℕ = div_ceil (h * n) (d * suc k) in
    let up = (div_ceil_times (h * n) (d * suc k) (mul-pos pos (zero-lt-suc k))).1 in
    let halved : h * (n + n) ≤ h * d = mul-le-mul_left h half in
    let one : t * (2 * suc k) ≤ h + 2 * suc k = le_of_mul-le-mul_right {k = d} (omega (arith, up, halved)) pos in
    omega (arith, mul-le-mul_right (fall k) one, bound, ap (λ x. x * fall k) (add-one k))

pub fallen : (T h : ℕ) → T ≤ fall 18 → h * fall 18 ≤ T + 2 * fall 18 → 0 < fall 18 → h ≤ 3
fallen T h far bound pos = le_of_mul-le-mul_right {k = fall 18} (omega (arith, bound, far)) pos
