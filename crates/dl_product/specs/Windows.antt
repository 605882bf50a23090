-- The part of a list outside of which all items are 0.
use Rattle.std.specs.Prelude.{ℕ, ◌≡◌, ◌-◌, ◌<◌, ◌≤◌, List, length, get_or}

-- the items from place p to before place e, where those before and after are 0; p is the place of
-- an item, where there is one
pub record IsWindow (xs : List ℕ) (p e : ℕ) : Type 0 where
  pub early : p ≤ length xs - 1
  pub order : p ≤ e
  pub within : e ≤ length xs
  pub before : (i : ℕ) → i < p → get_or xs i 0 ≡ 0
  pub after : (i : ℕ) → e ≤ i → get_or xs i 0 ≡ 0
