-- The cells of one shape from those of the shape before, for a count of shape 1, 2, 3 and so on.
use Rattle.std.specs.Prelude.{ℕ, zero, suc, ◌≡◌, List}
use Rattle.dl_exact.specs.Prelude.{Fraction, whole, ◌+ℚ◌, ◌*ℚ◌, sum_pairs}
use Rattle.dl_recursion.specs.declared.parts.Part.{Part}
use Rattle.dl_recursion.specs.Runs.{part_at}

-- r begins as u does, and each later cell of r is that of u with the sum over the amounts 1 + i and
-- the cells k of r with i + k = n, over q
pub record IsRaisedBy (parts : List Part) (q : ℕ) (u r : ℕ → Fraction) : Type 0 where
  pub start : r zero ≡ u zero
  pub next : (n : ℕ) → whole q *ℚ r (suc n) ≡ whole q *ℚ u (suc n)
      +ℚ sum_pairs n (λ i k. whole (part_at parts (suc i)) *ℚ r k)

-- 1 and then 0
unfoldable pub only_first : ℕ → Fraction
only_first zero = whole 1
only_first (suc n) = whole 0
