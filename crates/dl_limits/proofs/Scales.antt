-- The scale of a plan's grid, and what is allowed at it.
use Rattle.std.proofs.Common.{ℕ, ◌≡◌, ◌*◌, ◌^◌, ◌<◌, ◌≤◌, arith, inl, inr, refl}
use Rattle.std.proofs.lemmas.Bool.Decides.{leb_tells}
use Rattle.dl_limits.specs.Limits.{most_short_cells, short_bits, long_bits, bits_of, IsPlanScale}
use Rattle.dl_limits.specs.Limits.{most_cells, most_cells_at, most_amount, most_amount_at, most_horizon, most_total, most_total_at}

pub is_plan_scale : (cells : ℕ) → IsPlanScale (bits_of cells)
unfolding bits_of
is_plan_scale cells = elim (leb_tells cells most_short_cells) [
  | inl short ↦ rw short.0 (record { least = omega arith; most = omega arith })
  | inr long ↦ rw long.0 (record { least = omega arith; most = omega arith })
]

pub bits_of_short : (cells : ℕ) → cells ≤ most_short_cells → short_bits ≡ bits_of cells
unfolding bits_of
bits_of_short cells few = elim (leb_tells cells most_short_cells) [
  | inl short ↦ rw short.0 refl
  | inr long ↦ absurd (omega (arith, few, long.1))
]

pub bits_of_long : (cells : ℕ) → most_short_cells < cells → long_bits ≡ bits_of cells
unfolding bits_of
bits_of_long cells many = elim (leb_tells cells most_short_cells) [
  | inl short ↦ absurd (omega (arith, many, short.1))
  | inr long ↦ rw long.0 refl
]

-- a grid has room for each cell of its plan
pub cells_fit : (cells : ℕ) → cells ≤ most_cells → cells ≤ most_horizon cells
unfolding bits_of most_cells_at
cells_fit cells few = elim (leb_tells cells most_short_cells) [
  | inl short ↦ rw short.0 (omega (arith, short.1))
  | inr long ↦ rw long.0 few
]

-- the horizon of a clause lies within any grid
pub horizon_fits : (cells : ℕ) → most_horizon cells ≤ most_cells
unfolding bits_of most_cells_at
horizon_fits cells = elim (leb_tells cells most_short_cells) [
  | inl short ↦ rw short.0 (omega arith)
  | inr long ↦ rw long.0 (omega arith)
]

-- no plan has greater amounts
pub amount_fits : (cells : ℕ) → most_amount_at cells ≤ most_amount
unfolding most_amount_at
amount_fits cells = elim (leb_tells cells most_short_cells) [
  | inl short ↦ rw short.0 (omega arith)
  | inr long ↦ rw long.0 (omega arith)
]

-- the means of at most 16 units, each of 17 times 4,096 claims of the greatest amount
pub standard_total : (cells : ℕ) → 16 * (17 * 4096 * most_amount_at cells) ≤ most_total_at cells
unfolding most_amount_at most_total_at
standard_total cells = elim (leb_tells cells most_short_cells) [
  | inl short ↦ rw short.0 (omega arith)
  | inr long ↦ rw long.0 (omega arith)
]

-- the mean of the total, in units of the scale
pub total_units : (cells : ℕ) → most_total_at cells * 2 ^ bits_of cells ≤ 17 * 2 ^ 92
unfolding bits_of most_total_at
total_units cells = elim (leb_tells cells most_short_cells) [
  | inl short ↦ rw short.0 (omega arith)
  | inr long ↦ rw long.0 (omega arith)
]
