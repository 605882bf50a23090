-- Grids that follow Panjer's recursion from their own cells, rounded outward.
use Rattle.std.specs.Prelude.{ℕ, suc, ◌≡◌, ◌⊎◌, ◌<◌, ◌≤◌, min}
use Rattle.dl_exact.specs.Prelude.{Fraction, whole, ◌≤ℚ◌, IsCeiling}
use Rattle.dl_model.specs.Recursion.{from_before}

-- In units of 1 / scale: of so many cells each but the first has ends below and above what the
-- recursion makes of the ends before it; a high end of the scale or more is high enough.
pub record FollowsOutward (scale cells : ℕ) (a c : Fraction) (f : ℕ → Fraction)
    (lo hi : ℕ → ℕ) : Type 0 where
  pub low : (s : ℕ) → suc s < cells → whole (lo (suc s)) ≤ℚ from_before a c f (λ k. whole (lo k)) s
  pub high : (s : ℕ) → suc s < cells
      → (from_before a c f (λ k. whole (hi k)) s ≤ℚ whole (hi (suc s))) ⊎ (scale ≤ hi (suc s))

-- n is the ceiling of x, or `most` where that is less
abbrev pub IsCeilingWithin : ℕ → Fraction → ℕ → Type 0
IsCeilingWithin most x n = (m : ℕ) × IsCeiling x m × (n ≡ min most m)
