-- Sizes that a grid may have at each scale.
use Rattle.dl_grid.proofs.Common.{ℕ, ◌≤◌, inl, inr, arith, leb_tells, most_fine_cells, long_bits, most_cells_at}

-- what the finer scale allows, each scale allows
pub few_at_each_scale : (B : ℕ) {n : ℕ} → n ≤ most_fine_cells → n ≤ most_cells_at B
unfolding most_cells_at
few_at_each_scale B few = elim (leb_tells B long_bits) [
  | inl within ↦ rw within.0 (omega (arith, few))
  | inr beyond ↦ rw beyond.0 few
]
