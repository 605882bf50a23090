-- The sums of the ends of a grid's first cells, as a loop makes them.
use Rattle.dl_measures.proofs.Common.{ℕ, zero, suc, ◌≡◌, ◌+◌, ◌*◌, ◌^◌, ◌≤◌, List, length, arith, refl, Iv, low_at, high_at, spread, IsGrid, cells_fit, count_below, below_bound, take, mass_high, high_le, spread_is}
use Rattle.dl_grid.proofs.PlaceSums.{low_sum, low_within, width_at, width_sum, width_within, high_is}

-- the high ends are the low ends and the widths
pub high_sum : {B : ℕ} (n : ℕ) (cells : List (Iv B))
    → count_below n (high_at cells) ≡ count_below n (low_at cells) + count_below n (width_at cells)
unfolding count_below
high_sum zero cells = refl
high_sum (suc n) cells = omega (arith, high_sum n cells, high_is cells n)

pub high_mass : {B : ℕ} (n : ℕ) (cells : List (Iv B)) → count_below n (high_at cells) ≡ mass_high (take n cells)
high_mass n cells = omega (arith, high_sum n cells, low_sum n cells, width_sum n cells, spread_is (take n cells))

-- ---- how large they are

pub low_most : {B : ℕ} (cells : List (Iv B)) (n : ℕ) → IsGrid cells → count_below n (low_at cells) ≤ 2 ^ B
low_most cells n grid = omega (arith, low_within n cells)

pub high_end : {B : ℕ} (cells : List (Iv B)) (x : ℕ) → IsGrid cells → high_at cells x ≤ 2 ^ B
high_end {B} cells x grid = high_le cells x (2 ^ B) grid.small

pub high_most : {B : ℕ} (cells : List (Iv B)) (n : ℕ) → IsGrid cells → n ≤ length cells
    → count_below n (high_at cells) ≤ 2 ^ 70
high_most {B} cells n grid inside =
    let sum : count_below n (high_at cells) ≤ n * 2 ^ B =
    below_bound n (2 ^ B) (high_at cells) (λ i h. high_end cells i grid) in
    omega (arith, cells_fit cells n grid inside)

-- ---- low and high

pub low_high : {B : ℕ} (cells : List (Iv B)) (n : ℕ) → count_below n (low_at cells) ≤ count_below n (high_at cells)
low_high cells n = omega (arith, high_sum n cells)

pub apart : {B : ℕ} (cells : List (Iv B)) (n : ℕ)
    → count_below n (high_at cells) ≤ count_below n (low_at cells) + spread cells
apart cells n = omega (arith, high_sum n cells, width_within n cells)
