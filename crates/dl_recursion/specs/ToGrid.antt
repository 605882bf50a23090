-- The cells of the recursion times the probability of no claim, as a grid.
use Rattle.std.specs.Prelude.{ℕ, ◌≡◌, ◌+◌, ◌*◌, ◌^◌, ◌<◌, ◌≤◌, ◌⊎◌, List, slice_index}
use Prim.Native.Nat.{◌∣◌}
use Rattle.dl_limits.specs.Limits.{start_bits}
use Rattle.dl_exact.specs.Fraction.{Fraction, whole, ◌*ℚ◌}
use Rattle.dl_recursion.specs.declared.parts.Part.{Part}
use Rattle.dl_start.specs.declared.scaled.Scaled.{Scaled}
use Rattle.dl_recursion.specs.Runs.{part_at}

-- The ends lo and hi of cells in units of 1 / 2^B, from n cells of the recursion over amounts that
-- are `step` times smaller. Each end of cell step * k is on its side of the product of the end k of
-- the recursion, which is in units of 2^e / 2^61, and the end of the probability of no claim; or a
-- high end is 1. The low ends between are 0.
pub record HasGridEnds (B : ℕ) (start : Scaled) (e step n : ℕ) (low high : List ℕ) (lo hi : ℕ → ℕ)
    : Type 0 where
  pub low_end : (k : ℕ) → k < n → lo (step * k) * 2 ^ (start_bits + start.exponent)
      ≤ slice_index low k * start.low * 2 ^ (e + B)
  pub high_end : (k : ℕ) → k < n → (slice_index high k * start.high * 2 ^ (e + B)
      ≤ hi (step * k) * 2 ^ (start_bits + start.exponent)) ⊎ (hi (step * k) ≡ 2 ^ B)
  pub between : (x : ℕ) → ¬ (step ∣ x) → lo x ≡ 0

-- each part's weight is q times x times the probability of its amount
abbrev pub IsScaled : List Part → ℕ → Fraction → (ℕ → Fraction) → Type 0
IsScaled parts q x f = (j : ℕ) → whole q *ℚ (x *ℚ f j) ≡ whole (part_at parts j)
