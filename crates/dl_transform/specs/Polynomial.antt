-- Polynomials as their coefficients from the lowest on.
use Rattle.std.specs.Prelude.{ℕ, zero, suc, ◌+◌, ◌*◌}

-- the value at r: f 0 + f 1 * r + .. + f (n - 1) * r ^ (n - 1)
unfoldable pub eval : ℕ → (ℕ → ℕ) → ℕ → ℕ
eval zero f r = 0
eval (suc n) f r = f zero + r * eval n (λ i. f (suc i)) r
