-- The floor and the ceiling of a quotient.
use Rattle.dl_start.proofs.Common.{ℕ, suc, ◌+◌, ◌-◌, ◌*◌, ◌/◌, ◌^◌, ◌<◌, ◌≤◌, arith, div-mul-le_self, mul-le-mul, mul-le-mul_left, lt-div-mul-add, div-lt_iff_lt-mul, le-div}

pub ceil_reaches : (a d : ℕ) → 0 < d → a ≤ (a + (d - 1)) / d * d
ceil_reaches a d h = omega (arith, lt-div-mul-add {a = a + (d - 1)} {b = d} h)

pub ceil_least : (a d m : ℕ) → 0 < d → a ≤ m * d → (a + (d - 1)) / d ≤ m
ceil_least a d m h p = grind (arith, div-lt_iff_lt-mul {k = d} {x = a + (d - 1)} {y = suc m} h)

pub floor_ceil : (a b d : ℕ) → 0 < d → a ≤ b → a / d ≤ (b + (d - 1)) / d
floor_ceil a b d h p = le-div (a / d) (b + (d - 1)) d h (omega (arith, div-mul-le_self a d, p))

pub term_small : (t num d T : ℕ) → 0 < d → num ≤ d → t ≤ T → (t * num + (d - 1)) / d ≤ T
term_small t num d T h p q = ceil_least (t * num) d T h (mul-le-mul q p)

pub ceil_small : (a d T : ℕ) → 0 < d → a ≤ T → (a + (d - 1)) / d ≤ T
ceil_small a d T h p = ceil_least a d T h (omega (arith, p, mul-le-mul_left T h))

pub word_product : (a b : ℕ) → a < 2 ^ 64 → b < 2 ^ 64 → a * b < 2 ^ 128
word_product a b p q =
    omega (arith, mul-le-mul {n₁ = a} {m₁ = b} {n₂ = 2 ^ 64 - 1} {m₂ = 2 ^ 64 - 1} (omega (arith, p)) (omega (arith, q)))
