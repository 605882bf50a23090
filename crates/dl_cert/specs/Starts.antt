-- The grids that starts print.
use Rattle.std.specs.Prelude.{ℕ, ◌≡◌, ◌<◌, List, length}
use Rattle.dl_exact.specs.Fraction.{Fraction}
use Rattle.dl_iv.specs.declared.interval.Iv.{Iv}
use Rattle.dl_grid.specs.Cells.{low_at, high_at}
use Rattle.dl_plan.specs.declared.plan.Freq.{Freq}
use Rattle.dl_plan.specs.declared.severity.Sev.{Sev}
use Rattle.dl_cert.specs.Numbers.{low_start, high_start}

-- each end of the grid is the number of a start
pub record IsExactStart (freq : Freq) (sev : Sev) (v : Fraction) (grid : List (Iv 56)) : Type 0 where
  pub low : (y : ℕ) → y < length grid → low_at grid y ≡ low_start freq sev v (low_at grid) y
  pub high : (y : ℕ) → y < length grid → high_at grid y ≡ high_start freq sev v (high_at grid) y
