-- The share of a unit in the tail mean of the total.
use Rattle.std.specs.Prelude.{ℕ}
use Rattle.dl_exact.specs.Fraction.{Fraction, whole, ◌≤ℚ◌}
use Rattle.dl_model.specs.Series.{Series, AtMost, AtLeast}
use Rattle.dl_model.specs.Program.{Quantity, One, Part, Share}

-- The ends low and high hold the share of unit i in the tail mean at p, where q is the quantile.
-- The tail has the probability 1 - p, so that of the probability at q the part u lies below it for
-- which Part q u is p. No fraction need be that u: the ends hold the share at each u on both sides.
pub record HoldsShare (declares : Quantity → Series) (i : ℕ) (p : Fraction) (q : ℕ)
    (low high : Fraction) : Type 0 where
  pub at_most : (u : Fraction) → u ≤ℚ whole 1 → AtLeast (declares (Part q u)) (declares One) p
      → AtMost (declares (Share i p q u)) (declares One) high
  pub at_least : (u : Fraction) → u ≤ℚ whole 1 → AtMost (declares (Part q u)) (declares One) p
      → AtLeast (declares (Share i p q u)) (declares One) low
