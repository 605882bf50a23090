-- Lengths of lists that are multiplied by halves.
use Rattle.std.specs.Prelude.{ℕ, ◌≡◌, ◌*◌, ◌^◌, ◌≤◌}

-- a length of which halvings, at most 11, lead to 32
pub record IsHalvable (n : ℕ) : Type 0 where
  pub halvings : ℕ
  pub few : halvings ≤ 11
  pub length_is : n ≡ 32 * 2 ^ halvings

-- the number of items from which on a product is by halves
abbrev pub halved_from : ℕ
halved_from = 1536
