-- Families of outcomes, and what it is that a grid encloses one.
use Rattle.std.specs.Prelude.{ℕ, ◌^◌, ◌<◌, List, length}
use Rattle.dl_exact.specs.Prelude.{Fraction, whole, ◌over◌, ◌*ℚ◌, ◌≤ℚ◌, ◌^ℚ◌, sum_to, sum_pairs}
use Rattle.dl_iv.specs.declared.interval.Iv.{Iv}
use Rattle.dl_grid.specs.Cells.{low_at, high_at}
use Rattle.dl_model.specs.Series.{Series, Rises, Holds, SameValue, times}
use Rattle.dl_model.specs.Compound.{at_zero, power, cell}

-- a cell for each outcome, and the whole weight, at each level
pub record Family : Type 0 where
  pub cells : ℕ → Series
  pub all : Series

-- claims with count weights w, each of amount j with probability f j
abbrev pub compound : (ℕ → Fraction) → (ℕ → Fraction) → Family
compound w f = record { cells = cell w f; all = λ N. sum_to N w }

-- independent outcomes of two families added up: their convolution, level by level
abbrev pub product : Family → Family → Family
product F G = record {
  cells = λ y N. sum_pairs y (λ i j. F.cells i N *ℚ G.cells j N);
  all = times F.all G.all;
}

-- the outcome 0 alone: a point mass at 0
abbrev pub nothing : Family
nothing = record { cells = λ y N. at_zero y; all = λ N. whole 1 }

-- n outcomes of F added up: at each level the n-fold convolution of its cells, and the n-th power
-- of its whole weight
abbrev pub times_itself : Family → ℕ → Family
times_itself F n = record { cells = λ y N. power (λ j. F.cells j N) n y; all = λ N. F.all N ^ℚ n }

-- nothing falls as claims are added, and the cells add up to at most the whole weight
pub record IsProper (F : Family) : Type 0 where
  pub cells_rise : (y : ℕ) → Rises (F.cells y)
  pub all_rises : Rises F.all
  pub within : (y N : ℕ) → sum_to y (λ i. F.cells i N) ≤ℚ F.all N

-- A grid of so many cells, with low ends lo y and high ends hi y in units of 1 / scale, encloses F:
-- each cell holds the declared value.
abbrev pub Encloses : (scale cells : ℕ) → (lo hi : ℕ → ℕ) → Family → Type 0
Encloses scale cells lo hi F = (y : ℕ) → y < cells
    → Holds (F.cells y) F.all (lo y over scale) (hi y over scale)

-- Each cell of the grid holds the declared value of the family's cell over its whole weight.
abbrev pub GridEncloses : {B : ℕ} → List (Iv B) → Family → Type 0
GridEncloses {B} grid F = Encloses (2 ^ B) (length grid) (low_at grid) (high_at grid) F

-- in every cell F has the declared value that G has
abbrev pub SameCells : Family → Family → Type 0
SameCells F G = (y : ℕ) → SameValue (F.cells y) F.all (G.cells y) G.all
