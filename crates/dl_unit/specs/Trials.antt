-- One trial: a claim with probability q, else none. Ends are in units of 1/S.
use Rattle.std.specs.Prelude.{ℕ, ◌+◌, ◌-◌, ◌*◌, ◌/◌, min}
use Rattle.std.specs.Int.{div_ceil}
use Rattle.dl_exact.specs.Fraction.{Fraction}
use Rattle.dl_grid.specs.Cells.{all_at_zero}

-- the low end of cell y, from those of one claim: q times the claim's, and at 0 the rest of 1
-- besides, each rounded down
abbrev pub low_trial : ℕ → Fraction → (ℕ → ℕ) → ℕ → ℕ
low_trial S q lo y = lo y * q.num / q.den + all_at_zero (S * (q.den - q.num) / q.den) y

-- the high end, each rounded up, and at most 1
abbrev pub high_trial : ℕ → Fraction → (ℕ → ℕ) → ℕ → ℕ
high_trial S q hi y = min S (div_ceil (hi y * q.num) q.den + all_at_zero
    (div_ceil (S * (q.den - q.num)) q.den) y)
