-- Finite sums of fractions.
use Rattle.std.specs.Prelude.{ℕ, zero, suc, List, [], ◌∷◌}
use Rattle.dl_exact.specs.Fraction.{Fraction, whole, ◌+ℚ◌}

-- f 0 + f 1 + .. + f n
unfoldable pub sum_to : ℕ → (ℕ → Fraction) → Fraction
sum_to zero f = f zero
sum_to (suc n) f = sum_to n f +ℚ f (suc n)

-- f 0 + .. + f (n - 1)
unfoldable pub sum_below : ℕ → (ℕ → Fraction) → Fraction
sum_below zero f = whole 0
sum_below (suc n) f = sum_below n f +ℚ f n

-- the sum of f i j over all i + j = n
unfoldable pub sum_pairs : ℕ → (ℕ → ℕ → Fraction) → Fraction
sum_pairs zero f = f zero zero
sum_pairs (suc n) f = f zero (suc n) +ℚ sum_pairs n (λ i j. f (suc i) j)

-- the sum of f x over the items x of a list
unfoldable pub sum_over : {A : Type 0} → List A → (A → Fraction) → Fraction
sum_over [] f = whole 0
sum_over (x ∷ xs) f = f x +ℚ sum_over xs f
