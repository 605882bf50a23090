-- What is 0: the ends past the last cell of a grid, and the rounded quotient of nothing.
use Rattle.dl_claims.proofs.Common.{ℕ, zero, suc, ◌≡◌, ◌<◌, ◌≤◌, List, [], ◌∷◌, length, arith, refl, min, div_ceil, Iv, low_at, high_at, div_ceil_least}

-- past the end
pub low_past : {B : ℕ} (g : List (Iv B)) (x : ℕ) → length g ≤ x → low_at g x ≡ 0
unfolding low_at
low_past [] x past = refl
low_past (c ∷ cs) zero past = absurd (omega arith)
low_past (c ∷ cs) (suc x) past = low_past cs x (omega arith)

pub high_past : {B : ℕ} (g : List (Iv B)) (x : ℕ) → length g ≤ x → high_at g x ≡ 0
unfolding high_at
high_past [] x past = refl
high_past (c ∷ cs) zero past = absurd (omega arith)
high_past (c ∷ cs) (suc x) past = high_past cs x (omega arith)

-- nothing over a total, rounded up
pub nothing_over_up : (S total : ℕ) → 0 < total → min S (div_ceil 0 total) ≡ 0
nothing_over_up S total pos = omega (arith, div_ceil_least 0 total 0 pos (omega arith))
