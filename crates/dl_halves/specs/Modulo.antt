-- Whole numbers modulo 2^128.
use Rattle.std.specs.Prelude.{ℕ, ◌≡◌, ◌%◌, ◌^◌, ◌<◌}
use Rattle.std.proofs.Math.Nat.{mod-lt}
use Rattle.std.proofs.lemmas.Nat.{pow_pos}

-- x and y are the same modulo 2^128
pub record IsSame (x y : ℕ) : Type 0 where
  pub remainders : x % 2 ^ 128 ≡ y % 2 ^ 128

-- a remainder is below 2^128
pub remainder_small : (x : ℕ) → x % 2 ^ 128 < 2 ^ 128
remainder_small x = mod-lt x (pow_pos 128)
