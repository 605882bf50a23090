-- The scales of plans.
use Rattle.dl_sources.proofs.Common.{ℕ, ◌≡◌, ◌+◌, ◌*◌, ◌^◌, ◌≤◌, arith, sym, subst, pow-le-pow_right, inl, inr, leb_tells, bits_of, most_amount_at, most_cells_at, most_expected, most_horizon, most_plan_cells, most_short_cells, IsPlanScale, cells_fit, is_plan_scale, most_claims_mean, most_limited, IsGridSize}

pub plan_scale : (B cells : ℕ) → B ≡ bits_of cells → IsPlanScale B
plan_scale B cells same = subst IsPlanScale (sym same) (is_plan_scale cells)

pub scale_least : (B : ℕ) → IsPlanScale B → 2 ^ 48 ≤ 2 ^ B
scale_least B scale = pow-le-pow_right {n = 2} (omega arith) {i = 48} {j = B} scale.least

-- ---- what has room at the scale of a plan

-- a horizon of a plan is the size of a grid
pub horizon_size : (B cells k : ℕ) → B ≡ bits_of cells → 1 ≤ k → k ≤ most_horizon cells → IsGridSize B k
horizon_size B cells k same some few =
    let scale = plan_scale B cells same in record {
      scale_above = omega (arith, scale.least);
      scale_below = scale.most;
      some = some;
      few = subst (λ b. k ≤ most_cells_at b) (sym same) few;
    }

-- and so are its cells
pub grid_size : (B cells : ℕ) → B ≡ bits_of cells → 1 ≤ cells → cells ≤ most_plan_cells → IsGridSize B cells
grid_size B cells same some few = horizon_size B cells cells same some (cells_fit cells few)

-- the mean of a unit's outcomes is at most 2^93
pub mean_fits : (B cells hi : ℕ) → B ≡ bits_of cells → hi ≤ most_claims_mean cells (2 ^ B) + most_limited (2 ^ B)
    → hi ≤ 2 ^ 93
unfolding most_amount_at bits_of
mean_fits B cells hi same small = elim (leb_tells cells most_short_cells) [
  | inl short ↦ short_fits (rw (same, short.0) at small)
  | inr long ↦ long_fits (rw (same, long.0) at small)
]
  where
    short_fits : hi ≤ 65536 * 2 ^ 20 * 2 ^ 56 + 16 * 2 ^ 22 * 2 ^ 56 → hi ≤ 2 ^ 93
    short_fits h = omega (arith, h)

    long_fits : hi ≤ 65536 * 2 ^ 22 * 2 ^ 48 + 16 * 2 ^ 22 * 2 ^ 48 → hi ≤ 2 ^ 93
    long_fits h = omega (arith, h)

-- the same where at most 4,096 claims are expected, and the mean may be changed
pub changed_fits : (B cells hi : ℕ) → B ≡ bits_of cells
    → hi ≤ most_expected * most_amount_at cells * 2 ^ B + most_limited (2 ^ B) → hi ≤ 2 ^ 88 + 2 ^ 82
unfolding most_amount_at bits_of
changed_fits B cells hi same small = elim (leb_tells cells most_short_cells) [
  | inl short ↦ short_fits (rw (same, short.0) at small)
  | inr long ↦ long_fits (rw (same, long.0) at small)
]
  where
    short_fits : hi ≤ 4096 * 2 ^ 20 * 2 ^ 56 + 16 * 2 ^ 22 * 2 ^ 56 → hi ≤ 2 ^ 88 + 2 ^ 82
    short_fits h = omega (arith, h)

    long_fits : hi ≤ 4096 * 2 ^ 22 * 2 ^ 48 + 16 * 2 ^ 22 * 2 ^ 48 → hi ≤ 2 ^ 88 + 2 ^ 82
    long_fits h = omega (arith, h)
