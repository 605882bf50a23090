-- The sum of all units, and those of all units but one.
use Rattle.std.specs.Prelude.{All, ℕ, ◌≡◌, ◌^◌, ◌<◌, ◌≤◌, ◌↔◌, Bool, false, IsTrue, Option, Some, None, IsSome, IfSome, List, [], length, map, get_or}
use Rattle.std.specs.List.{remove}
use Rattle.dl_iv.specs.declared.interval.Iv.{Iv}
use Rattle.dl_grid.specs.Prelude.{spread, sum_spread}
use Rattle.dl_model.specs.Prelude.{Loss, AreDeclarable, total, GridEncloses, without}
use Rattle.dl_totals.specs.Sums.{EncloseEach}

-- each grid has the first k cells, of which there is one at least
pub record HaveCells {B : ℕ} (k : ℕ) (grids : List (List (Iv B))) : Type 0 where
  pub some : 1 ≤ k
  pub in_each : All (λ g. k ≤ length g) grids

-- there is a grid, and each has the first k cells, of which there is one at least
pub record AreUnits {B : ℕ} (k : ℕ) (grids : List (List (Iv B))) : Type 0 where
  pub units : 1 ≤ length grids
  pub some : 1 ≤ k
  pub in_each : All (λ g. k ≤ length g) grids

-- k cells that enclose the sum of all units, as narrow as where the units are taken in one by one,
-- in order
pub record IsTotal {B : ℕ} (k : ℕ) (grids : List (List (Iv B))) (sum : List (Iv B)) : Type 0 where
  pub cells : length sum ≡ k
  pub encloses : (us : List Loss) → AreDeclarable us → EncloseEach grids us
      → GridEncloses sum (total us)
  pub narrow : spread sum ≤ sum_spread (2 ^ B) k (map spread grids)

-- the same for the sum of all units but unit i
pub record IsSumWithout {B : ℕ} (k : ℕ) (grids : List (List (Iv B))) (i : ℕ)
    (sum : List (Iv B)) : Type 0 where
  pub cells : length sum ≡ k
  pub encloses : (us : List Loss) → AreDeclarable us → EncloseEach grids us
      → GridEncloses sum (total (without us i))
  pub narrow : spread sum ≤ sum_spread (2 ^ B) k (map spread (remove grids i))

-- for each unit that is asked for, the sum of all other units, and none for the others
pub record AreSumsWithout {B : ℕ} (k : ℕ) (grids : List (List (Iv B))) (asked : List Bool)
    (sums : List (Option (List (Iv B)))) : Type 0 where
  pub as_many : length sums ≡ length grids
  pub there : (i : ℕ) → i < length grids → IsSome (get_or sums i None)
      ↔ IsTrue (get_or asked i false)
  pub each : (i : ℕ) → i < length grids → IfSome (get_or sums i None) (IsSumWithout k grids i)

-- unit i is asked for, and no other
pub record IsOnly (asked : List Bool) (i : ℕ) : Type 0 where
  pub inside : i < length asked
  pub there : IsTrue (get_or asked i false)
  pub alone : (k : ℕ) → IsTrue (get_or asked k false) → k ≡ i

-- a grid that encloses the sum of some units, and none where there are no units
abbrev pub EnclosesSum : {B : ℕ} → Option (List (Iv B)) → List Loss → Type 0
EnclosesSum None us = us ≡ []
EnclosesSum (Some sum) us = GridEncloses sum (total us)

-- k cells that enclose the sum of the units that `part` takes from all, and none where it takes no
-- units
pub record IsSumOfPart {B : ℕ} (k : ℕ) (grids : List (List (Iv B)))
    (part : List Loss → List Loss) (sum : Option (List (Iv B))) : Type 0 where
  pub cells : IfSome sum (λ g. length g ≡ k)
  pub encloses : (us : List Loss) → AreDeclarable us → EncloseEach grids us
      → EnclosesSum sum (part us)
