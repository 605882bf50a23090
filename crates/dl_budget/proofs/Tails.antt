-- The budget of a tail mean by whole numbers.
use Rattle.dl_budget.proofs.Common.{ℕ, ◌≡◌, ◌+◌, ◌-◌, ◌*◌, ◌^◌, ◌<◌, ◌≤◌, arith, ap, ap₂, sym, ◌∙◌, div_ceil, mul-le-mul, mul-le-mul_left, Fraction, whole, ◌over◌, div_ceil_least, up, up_quotient, num_below, ◌<ℚ◌, IsLevel}

pub tail_small : (both b rest : ℕ) → 0 < rest → b ≤ 10 ^ 9 → both ≤ 2 ^ 68 + 2 ^ 63
    → div_ceil (both * b) rest + 4 ≤ 2 ^ 98 - 2 ^ 90
tail_small both b rest some few small =
    let more : both * b * 1 ≤ both * b * rest = mul-le-mul_left (both * b) some in
    omega (arith, div_ceil_least (both * b) rest (both * b) some (omega (arith, more)), mul-le-mul small few)

pub tail_sums : (mean cells total : ℕ) → mean ≤ 2 ^ 67 → cells ≤ 65536 → total < 2 ^ 45
    → 2 * mean + 3 * cells * total ≤ 2 ^ 68 + 2 ^ 63
tail_sums mean cells total of_mean few small =
    let below : total ≤ 2 ^ 45 = omega (arith, small) in
    omega (arith, of_mean, mul-le-mul few below)

-- a width over 1 - p, and 4 more, from the parts of p
pub over_tail : (x y b d n : ℕ) (p : Fraction) → x ≡ y → b ≡ p.den → d ≡ p.den → n ≡ p.num → p <ℚ whole 1
    → div_ceil (x * b) (d - n) + 4 ≡ up ((y * p.den) over (p.den - p.num)) + 4
over_tail x y b d n p here of_b of_d of_n below =
    let rest : 0 < p.den - p.num = omega (arith, num_below p below) in
    ap (λ t. t + 4) (ap₂ div_ceil (ap₂ (λ s t. s * t) here of_b) (ap₂ (λ s t. s - t) of_d of_n)
    ∙ sym (up_quotient (y * p.den) (p.den - p.num) rest))

-- from the mean and the total's budget, and the parts of p
pub tail_value : (M T cells x y b d n : ℕ) (p : Fraction) → x ≡ M → y ≡ T → b ≡ p.den → d ≡ p.den → n ≡ p.num
    → p <ℚ whole 1
    → div_ceil ((2 * x + 3 * cells * y) * b) (d - n) + 4
    ≡ up (((2 * M + 3 * cells * T) * p.den) over (p.den - p.num)) + 4
tail_value M T cells x y b d n p of_mean of_total =
    over_tail (2 * x + 3 * cells * y) (2 * M + 3 * cells * T) b d n p
    (ap₂ (λ s t. 2 * s + 3 * cells * t) of_mean of_total)

-- where the mean's and the total's budget are not too large
pub tail_most : (M T cells : ℕ) (p : Fraction) → M ≤ 2 ^ 67 → T < 2 ^ 45 → cells ≤ 65536 → IsLevel p
    → up (((2 * M + 3 * cells * T) * p.den) over (p.den - p.num)) + 4 ≤ 2 ^ 98 - 2 ^ 90
tail_most M T cells p of_mean of_total few level =
    let below = num_below p level.below in
    omega (
      arith,
      up_quotient ((2 * M + 3 * cells * T) * p.den) (p.den - p.num) (omega (arith, below)),
      tail_small (2 * M + 3 * cells * T) p.den (p.den - p.num) (omega (arith, below)) (omega (arith, level.den))
          (tail_sums M cells T of_mean few of_total),
    )
