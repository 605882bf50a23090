-- How wide a share at a bracket of the quantile is, in plain numbers. The bracket goes from x to q; the ends of the
-- unit's mean are ml and mh, those of its joint means up to x and up to q bl, bh and cl, ch, that at q has the ends jl
-- and jh, and what of the joint mean lies in the tail is at most u at x and at least v at q.
use Rattle.dl_shares.proofs.Common.{ℕ, ◌≡◌, ◌+◌, ◌-◌, ◌*◌, ◌/◌, ◌^◌, ◌<◌, ◌≤◌, arith, div_ceil, div_ceil_least, mul-le-mul, mul-le-mul_left, Fraction, whole, ◌<ℚ◌, up_quotient, quotients_apart, max, rest_above, whole_share_width}

-- the width of the sum of what lies above the quantile and of the part of its joint mean
abbrev pub sum_width : (m K j t : ℕ) → ℕ
sum_width m K j t = m + 4 * j + 6 * (K * t) + 4 * K + 4

-- the part of a joint mean, on a grid of K cells and of the spread t
pub part_wide : (K t x d u a w p j : ℕ) → x < K → u ≤ d + a + x * (w + p) + 2 → a ≤ j → w ≤ t + 1 → p ≤ t
    → u ≤ d + j + (2 * (K * t) + K) + 2
part_wide K t x d u a w p j inside near joint above at =
    let most : x * (w + p) ≤ K * (2 * t + 1) = mul-le-mul (omega arith) (omega arith) in
    omega (arith, most)

-- one total
pub one_sum : (m K j t ml mh bl bh u v : ℕ) → mh - ml ≤ m → ml ≤ mh → bh - bl ≤ j → u ≤ v + j + (2 * (K * t) + K) + 2
    → (mh - bl) + u ≤ ((ml - bh) + v) + sum_width m K j t
one_sum m K j t ml mh bl bh u v mean order sums near = omega arith

-- two totals
pub two_sums : (m K j t q ml mh bl bh cl ch jl jh u v g r : ℕ) → q < K → mh - ml ≤ m → ml ≤ mh → bh - bl ≤ j
    → ch - cl ≤ j → jh - jl ≤ j → cl ≤ bh + K * g + jh → g ≤ t → jl ≤ v + q * r + 1 → r ≤ t → u ≤ 0 + j + (2 * (K * t) + K) + 2
    → (mh - bl) + u ≤ ((ml - ch) + v) + sum_width m K j t
two_sums m K j t q ml mh bl bh cl ch jl jh u v g r inside mean order first last joint sums between part rest high =
    let most : q * r ≤ K * t = mul-le-mul (omega arith) rest in
    omega (arith, mul-le-mul_left K between, most)

pub scaled_narrow : (p : Fraction) (m K j t low high l h : ℕ) → p <ℚ whole 1 → high ≤ low + sum_width m K j t
    → l ≡ low * p.den / (p.den - p.num) → h ≡ div_ceil (max high low * p.den) (p.den - p.num)
    → h - l ≤ whole_share_width p m K j t
scaled_narrow p m K j t low high l h below near is_low is_high =
    let left = rest_above p below in
    let E = sum_width m K j t in
    omega (
      arith,
      up_quotient (E * p.den) (p.den - p.num) left,
      quotients_apart (p.den - p.num) p.den low (max high low) E left (omega (arith, near)),
    )

-- ---- how large

pub whole_fits : (h d k : ℕ) → 0 < k → h ≤ 2 ^ 97 + 2 ^ 72 → d ≤ 1000000000
    → (h * d < 2 ^ 128) × (div_ceil (h * d) k ≤ 2 ^ 127)
whole_fits h d k pos small few =
    let most : h * d ≤ (2 ^ 97 + 2 ^ 72) * 1000000000 = mul-le-mul small few in (
      omega (arith, most),
      omega (arith, most, div_ceil_least (h * d) k (h * d) pos (omega (arith, mul-le-mul_left (h * d) pos))),
    )
