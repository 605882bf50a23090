-- Finite sums of whole numbers.
use Rattle.std.specs.Prelude.{ℕ, zero, suc, ◌+◌}

-- f 0 + .. + f (n - 1)
unfoldable pub count_below : ℕ → (ℕ → ℕ) → ℕ
count_below zero f = 0
count_below (suc n) f = count_below n f + f n

-- the sum of f i j over all i + j = n
unfoldable pub count_pairs : ℕ → (ℕ → ℕ → ℕ) → ℕ
count_pairs zero f = f zero zero
count_pairs (suc n) f = f zero (suc n) + count_pairs n (λ i j. f (suc i) j)
