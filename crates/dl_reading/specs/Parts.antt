-- Fine probabilities, and what a severity keeps once the first rules are not broken.
use Rattle.std.specs.Prelude.{List, ◌≡◌, length}
use Rattle.dl_exact.specs.Fraction.{Fraction, whole}
use Rattle.dl_plan.specs.Fine.{IsFineTo40Bits}
use Rattle.dl_severity.specs.Weighing.{sum_of}
use Rattle.dl_reading.specs.declared.grid.GridSev.{GridSev}
use Rattle.dl_reading.specs.Severity.{weights_of}
use Rattle.dl_reading.specs.CheckedGrid.{IsGridSev}

-- one weight for each atom
pub record IsSevWeighted (s : GridSev) : Type 0 where
  pub grid : IsGridSev s
  pub each : length (weights_of s) ≡ length s.atoms

-- fractions with a common denominator of at most 2^40 that sum to 1
pub record AreProbabilities (xs : List Fraction) : Type 0 where
  pub fine : IsFineTo40Bits xs
  pub one : sum_of xs ≡ whole 1
