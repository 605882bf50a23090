-- The joint means of a unit at all totals up to q, added up, in units of 1/S^2.
use Rattle.std.specs.Prelude.{ℕ, suc, ◌*◌, List}
use Rattle.dl_exact.specs.Count.{count_below, count_pairs}
use Rattle.dl_iv.specs.declared.interval.Iv.{Iv}
use Rattle.dl_shares.specs.Weighted.{low_weighted, high_weighted}

-- the running sums of g
abbrev pub sums_of : (ℕ → ℕ) → ℕ → ℕ
sums_of g z = count_below (suc z) g

-- the sum of y * f y * g z over all y + z up to q
abbrev pub weighted_to : (f g : ℕ → ℕ) → ℕ → ℕ
weighted_to f g q = count_below (suc q) (λ x. count_pairs x (λ y z. y * f y * g z))

-- the sum of the low ends of the joint means at the totals up to q
abbrev pub low_sums : {B : ℕ} → List (Iv B) → List (Iv B) → ℕ → ℕ
low_sums unit others q = count_below (suc q) (low_weighted unit others)

-- the sum of the high ends
abbrev pub high_sums : {B : ℕ} → List (Iv B) → List (Iv B) → ℕ → ℕ
high_sums unit others q = count_below (suc q) (high_weighted unit others)
