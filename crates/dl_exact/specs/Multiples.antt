-- The least common multiple of two numbers.
use Rattle.std.specs.Prelude.{ℕ, ◌*◌, ◌/◌}
use Prim.Native.Nat.{◌∣◌}
use Rattle.dl_exact.specs.Gcd.{gcd}

-- m is a multiple of a and of b, and divides each number that is one of both
pub record IsLcm (a b m : ℕ) : Type 0 where
  pub left : a ∣ m
  pub right : b ∣ m
  pub least : (n : ℕ) → a ∣ n → b ∣ n → m ∣ n

-- the least common multiple: a number without the common divisor, times the other
unfoldable pub lcm : ℕ → ℕ → ℕ
lcm a b = a / gcd a b * b
