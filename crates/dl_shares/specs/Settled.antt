-- Where a grid gives a quantile, and why it gives no share there.
use Rattle.std.specs.Prelude.{ℕ, ◌*◌, ◌^◌, ◌<◌, ◌≤◌, ◌⊎◌, Option, Some, None, List, length}
use Rattle.dl_limits.specs.Limits.{rarest_parts}
use Rattle.dl_exact.specs.Fraction.{Fraction, ◌over◌, ◌+ℚ◌, ◌-ℚ◌}
use Rattle.dl_iv.specs.declared.interval.Iv.{Iv}
use Rattle.dl_grid.specs.Cells.{low_at, high_at}
use Rattle.dl_model.specs.Prelude.{Series, AtMost, AtLeast, Below, Quantity, One, Point, Cdf, IsQuantile}
use Rattle.dl_measures.specs.Prelude.{IsFirstAtLeast, IsFirstFound, low_cdf, high_cdf}

-- the bracket of the quantile at p in a grid: where the high end of the distribution first reaches
-- p, and where the low end does
pub record IsBracketIn {B : ℕ} (grid : List (Iv B)) (p : Fraction) (lo : ℕ)
    (hi : Option ℕ) : Type 0 where
  pub first : IsFirstAtLeast (high_cdf (2 ^ B) (high_at grid)) p (length grid) lo
  pub found : IsFirstFound (low_cdf (2 ^ B) (low_at grid)) p (length grid) hi

-- the grid ends before the quantile
abbrev pub IsPast : {B : ℕ} → List (Iv B) → Fraction → Type 0
IsPast {B} grid p = IsFirstFound (low_cdf (2 ^ B) (low_at grid)) p (length grid) None

-- the bracket has two ends
pub record IsOpen {B : ℕ} (grid : List (Iv B)) (p : Fraction) : Type 0 where
  pub lo : ℕ
  pub hi : ℕ
  pub bracket : IsBracketIn grid p lo (Some hi)
  pub apart : lo < hi

-- it has one, and the probability of that total may be below one in `rarest_parts`
pub record IsRare {B : ℕ} (grid : List (Iv B)) (p : Fraction) : Type 0 where
  pub q : ℕ
  pub bracket : IsBracketIn grid p q (Some q)
  pub rare : low_at grid q * rarest_parts < 2 ^ B

-- it has one, inside the grid, and the probability of that total is at least one in `rarest_parts`
pub record IsSettled {B : ℕ} (grid : List (Iv B)) (p : Fraction) (q : ℕ) : Type 0 where
  pub inside : q < length grid
  pub bracket : IsBracketIn grid p q (Some q)
  pub common : 2 ^ B ≤ low_at grid q * rarest_parts

-- at some total inside the grid the distribution is within d of p
pub record IsNearAt (declares : Quantity → Series) (cells : ℕ) (p d : Fraction) : Type 0 where
  pub x : ℕ
  pub inside : x < cells
  pub at_most : AtMost (declares (Cdf x)) (declares One) (p +ℚ d)
  pub at_least : AtLeast (declares (Cdf x)) (declares One) (p -ℚ d)

-- the quantile at p lies inside the grid, and its probability is below 1 / rarest_parts + d
pub record IsRareQuantile (declares : Quantity → Series) (cells : ℕ) (p d : Fraction) : Type 0 where
  pub q : ℕ
  pub inside : q < cells
  pub quantile : IsQuantile declares q p
  pub rare : Below (declares (Point q)) (declares One) (1 over rarest_parts +ℚ d)

-- why a share may be missing at a quantile inside the grid
abbrev pub MayBeAbsent : (Quantity → Series) → (cells : ℕ) (p d : Fraction) → Type 0
MayBeAbsent declares cells p d = IsNearAt declares cells p d ⊎ IsRareQuantile declares cells p d
