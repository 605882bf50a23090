-- What the probabilities of a severity are.
use Rattle.std.specs.Prelude.{ℕ, zero, suc, ◌≡◌, ◌<◌}
use Rattle.dl_exact.specs.Prelude.{Fraction, whole, ◌+ℚ◌, ◌*ℚ◌, ◌≤ℚ◌, sum_to}

-- the probabilities of the amounts from 0 on add up to at most 1
abbrev pub IsWithinOne : (ℕ → Fraction) → Type 0
IsWithinOne f = (n : ℕ) → sum_to n f ≤ℚ whole 1

-- the probabilities of the amounts from 0 to the greatest add up to 1, and no amount is above the
-- greatest
pub record IsSeverity (f : ℕ → Fraction) (most : ℕ) : Type 0 where
  pub add_up : sum_to most f ≡ whole 1
  pub past : (j : ℕ) → most < j → f j ≡ whole 0

-- g is f conditioned on amounts above 0, and p is their probability: what is left where the claims
-- of amount 0 are not counted
pub record IsPositivePart (f : ℕ → Fraction) (p : Fraction) (g : ℕ → Fraction) : Type 0 where
  pub no_zero : g zero ≡ whole 0
  pub share : f zero +ℚ p ≡ whole 1
  pub above : (j : ℕ) → f (suc j) ≡ p *ℚ g (suc j)
