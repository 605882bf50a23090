-- Panjer's recursion (Loss Models, "The recursive method"), for the class (a, b, 0) by a and
-- c = a + b: so no number is negative.
use Rattle.std.specs.Prelude.{ℕ, zero, suc, ◌≡◌}
use Rattle.dl_exact.specs.Prelude.{Fraction, whole, ◌+ℚ◌, ◌*ℚ◌, ◌/ℚ◌, sum_pairs}

-- The part of cell s + 1 that comes from the cells before it: the sum, over the amounts 1 + i that
-- leave k = s - i, of (a * k + c * (1 + i)) / (s + 1) * f (1 + i) * r k.
abbrev pub from_before : Fraction → Fraction → (ℕ → Fraction) → (ℕ → Fraction) → ℕ → Fraction
from_before a c f r s = sum_pairs s
    (λ i k. (a *ℚ whole k +ℚ c *ℚ whole (suc i)) /ℚ whole (suc s) *ℚ f (suc i) *ℚ r k)

-- the recursion for f with no amount 0, before its constant factor
pub record Recursion (a c : Fraction) (f r : ℕ → Fraction) : Type 0 where
  pub start : r zero ≡ whole 1
  pub next : (s : ℕ) → r (suc s) ≡ from_before a c f r s
