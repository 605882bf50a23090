-- Plainer bounds from which the conditions of the rounded operations follow.
use Rattle.dl_iv.proofs.Common.{ℕ, ◌+◌, ◌*◌, ◌/◌, ◌%◌, ◌^◌, ◌<◌, ◌≤◌, arith, refl, le-mul_of_pos_right, mul-le-mul_right, le_trans, div_ceil, div-le_of_le-mul, pow_pos, div_ceil_least, min, mul_comm}
use Rattle.std.proofs.Math.Nat.{lt-div-mul-add, mod-le, mod-lt, mul-le-mul}
use Rattle.dl_iv.proofs.Rounding.{power_le}

-- a fraction below 2^71 can be enclosed
pub enclose_fits : (b n d : ℕ) → b ≤ 56 → 0 < d → n / d < 2 ^ 71 → div_ceil (2 ^ b * n) d ≤ 2 ^ 127
enclose_fits b n d small pos below =
    let part : n < n / d * d + d = lt-div-mul-add pos in
    let whole : (n / d + 1) * d ≤ 2 ^ 71 * d = mul-le-mul_right d (omega arith) in
    let bound : n ≤ 2 ^ 71 * d = omega arith in
    let scaled : 2 ^ b * n ≤ 2 ^ 56 * n = mul-le-mul_right n (power_le b (2 ^ b) 56 refl small) in
    div_ceil_least (2 ^ b * n) d (2 ^ 127) pos (omega arith)

-- quotients below 2^71 fit
pub quotient_fits : (b n d : ℕ) → b ≤ 56 → 0 < d → n / d < 2 ^ 71 → div_ceil (n * 2 ^ b) d ≤ 2 ^ 127
quotient_fits b n d small pos below = rw (mul_comm n (2 ^ b)) (enclose_fits b n d small pos below)

-- an end whose digits fit can be printed
pub print_fits : (n b : ℕ) → n ≤ 2 ^ 127 → n ≤ 2 ^ 127 * 2 ^ b
print_fits n b h = le_trans h (le-mul_of_pos_right (2 ^ 127) (pow_pos b))

-- a part of a number fits where the number does
pub part_fits : (n m d t : ℕ) → 0 < d → m ≤ d → n ≤ t → (n * m / d ≤ t) × (div_ceil (n * m) d ≤ t)
part_fits n m d t pos part fits =
    let most : n * m ≤ t * d = mul-le-mul fits part in
    (div-le_of_le-mul d (omega arith), div_ceil_least (n * m) d t pos most)

-- a rest is below the number and below its divisor
pub rest_fits : (n d k e s t : ℕ) → 0 < d → d ≤ e → n ≤ k → min k e * s < t → n % d * s < t
rest_fits n d k e s t pos wide most fits =
    let rest : n % d ≤ min k e = omega (arith, mod-lt n pos, mod-le n d) in
    omega (arith, mul-le-mul_right s rest)
