-- The joint mean of a unit at x, in units of 1/S^2: its outcomes y, each times the ends of its
-- probability and of that of x - y from the others.
use Rattle.std.specs.Prelude.{ℕ, ◌*◌, ◌^◌, ◌<◌, List, length}
use Rattle.dl_iv.specs.declared.interval.Iv.{Iv}
use Rattle.dl_grid.specs.Cells.{low_at, high_at, spread}
use Rattle.dl_exact.specs.Count.{count_pairs}

-- the grids of a unit and of the others reach x, and their ends lie less than a whole apart
pub record AreBeside {B : ℕ} (unit others : List (Iv B)) (x : ℕ) : Type 0 where
  pub in_unit : x < length unit
  pub in_others : x < length others
  pub unit_narrow : spread unit < 2 ^ B
  pub others_narrow : spread others < 2 ^ B

-- the sum of y times the low ends at y and z over all y + z = x, in units of 1/S^2
abbrev pub low_weighted : {B : ℕ} → List (Iv B) → List (Iv B) → ℕ → ℕ
low_weighted unit others x = count_pairs x (λ y z. y * low_at unit y * low_at others z)

-- the same of the high ends
abbrev pub high_weighted : {B : ℕ} → List (Iv B) → List (Iv B) → ℕ → ℕ
high_weighted unit others x = count_pairs x (λ y z. y * high_at unit y * high_at others z)
