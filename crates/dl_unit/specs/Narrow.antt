-- Grids whose ends lie close together.
use Rattle.std.specs.Prelude.{ℕ, ◌≡◌, ◌^◌, ◌≤◌, List, length}
use Rattle.dl_iv.specs.declared.interval.Iv.{Iv}
use Rattle.dl_grid.specs.Prelude.{spread}
use Rattle.dl_model.specs.Prelude.{Family, GridEncloses, compound_of}
use Rattle.dl_plan.specs.declared.plan.Freq.{Freq}
use Rattle.dl_plan.specs.declared.severity.Sev.{Sev}
use Rattle.dl_plan.specs.Prelude.{claims_alone}
use Rattle.dl_budget.specs.Claims.{claims_budget}

-- the first n cells of these declared values, whose ends lie no further apart in all than the bound
pub record IsNarrow {B : ℕ} (n bound : ℕ) (declared : Family) (grid : List (Iv B)) : Type 0 where
  pub cells : length grid ≡ n
  pub encloses : GridEncloses grid declared
  pub spread : spread grid ≤ bound

-- those of the sum of claims with this count and severity, within the budget of the sum
abbrev pub IsNarrowSum : {B : ℕ} → ℕ → Freq → Sev → List (Iv B) → Type 0
IsNarrowSum {B} n freq sev grid =
    IsNarrow n (claims_budget (2 ^ B) n (claims_alone freq sev)) (compound_of freq sev) grid
