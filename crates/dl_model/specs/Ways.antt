-- Compound sums of whole numbers.
use Rattle.std.specs.Prelude.{ℕ, zero, suc, ◌*◌}
use Rattle.dl_exact.specs.Count.{count_pairs}

-- the weighted ways in which n claims add up to s, where w j is the weight of amount j
unfoldable pub ways : (ℕ → ℕ) → ℕ → ℕ → ℕ
ways w zero zero = 1
ways w zero (suc s) = 0
ways w (suc n) s = count_pairs s (λ i j. w i * ways w n j)
