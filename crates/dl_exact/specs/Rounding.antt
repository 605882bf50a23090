-- The floor and the ceiling of a fraction, each by what it bounds.
use Rattle.std.specs.Prelude.{ℕ, ◌≤◌}
use Rattle.std.specs.Int.{div_ceil}
use Rattle.dl_exact.specs.Fraction.{Fraction, whole, ◌≤ℚ◌}

-- n is the greatest whole number that is not above x
pub record IsFloor (x : Fraction) (n : ℕ) : Type 0 where
  pub below : whole n ≤ℚ x
  pub greatest : (m : ℕ) → whole m ≤ℚ x → m ≤ n

-- the least whole number that is not below x
unfoldable pub up : Fraction → ℕ
up x = div_ceil x.num x.den

-- n is the least whole number that is not below x
pub record IsCeiling (x : Fraction) (n : ℕ) : Type 0 where
  pub above : x ≤ℚ whole n
  pub least : (m : ℕ) → x ≤ℚ whole m → n ≤ m
