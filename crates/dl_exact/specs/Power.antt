-- Powers of fractions, factorials and binomial coefficients.
use Rattle.std.specs.Prelude.{ℕ, zero, suc, ◌+◌, ◌*◌}
use Rattle.dl_exact.specs.Fraction.{Fraction, whole, ◌*ℚ◌}

-- x to the power n; 0 to the power 0 is 1
unfoldable pub ◌^ℚ◌ : Fraction → ℕ → Fraction
x ^ℚ zero = whole 1
x ^ℚ (suc n) = x *ℚ x ^ℚ n

infix 80 ◌^ℚ◌
-- n!
unfoldable pub factorial : ℕ → ℕ
factorial zero = 1
factorial (suc n) = suc n * factorial n

-- the number of ways to choose j of i, 0 where j is above i
unfoldable pub choose : ℕ → ℕ → ℕ
choose i zero = 1
choose zero (suc j) = 0
choose (suc i) (suc j) = choose i j + choose i (suc j)
