-- How close together the ends of a root lie.
use Rattle.dl_start.proofs.Common.{◌≡◌, ℕ, zero, suc, ◌+◌, ◌-◌, ◌*◌, ◌/◌, ◌^◌, ◌<◌, ◌≤◌, inl, inr, cases_lt, arith, ap, mul-pos, mul-le-mul, mul-le-mul_right, le_of_mul-le-mul_right, Scaled, IsExact, IsRootRatio, IsWithin}
use Rattle.dl_start.proofs.Squares.{le_of_squares}

-- X / q is at most Y / E; H and L are those numbers in one or two parts, rounded outward, and u is at most H
rounded_parts : (o u X Y L H E q : ℕ) → o ≤ 1 → u ≤ H → H * (o + 1) ≤ X + o → Y ≤ L * (o + 1) + o → X * E ≤ Y * q → E ≤ q
    → u * E ≤ (L + 1) * q
rounded_parts zero u X Y L H E q few p high low h e =
    let above : u ≤ X = omega (arith, p, high) in
    let below : Y ≤ L = omega (arith, low) in
    omega (arith, h, mul-le-mul_right E above, mul-le-mul_right q below)
rounded_parts (suc zero) u X Y L H E q few p high low h e =
    let above : u * 2 ≤ X + 1 = omega (arith, p, high) in
    let below : Y ≤ L * 2 + 1 = omega (arith, low) in
    omega (arith, h, e, mul-le-mul_right E above, mul-le-mul_right q below)
rounded_parts (suc (suc o)) u X Y L H E q few p high low h e = absurd (omega (arith, few))

-- the root b, rounded up, of ends whose ratio is at most m / D of the root a, rounded down, is at most s / D of it
root_rounded : (D a b m g s : ℕ) → 0 < D → D ≤ m → m + g ≡ s → (b - 1) * D ≤ (a + 1) * m → m ≤ D * 1024 → 2 ^ 61 ≤ b
    → 16 * ((m + D) * m) ≤ 2 ^ 64 * D * g → b * D ≤ a * s
root_rounded D a b m g s Dp least split near small bits rounded =
    let mp : 0 < m = omega (arith, Dp, least) in
    let less : 2 ^ 61 - 1 ≤ b - 1 = omega (arith, bits) in
    let far : 2 ^ 60 * D ≤ a * m = omega (arith, near, small, mul-le-mul_right D less) in
    let product : 2 ^ 60 * D * g ≤ a * m * g = mul-le-mul_right g far in
    let room : (m + D) * m ≤ a * g * m = omega (arith, product, rounded) in
    let all : m + D ≤ a * g = le_of_mul-le-mul_right {k = m} room mp in
    let one : b ≤ b - 1 + 1 = omega arith in
    omega (arith, near, all, ap (λ t. a * t) split, mul-le-mul_right D one)

-- the root of a product of ends
pub root_within : (r s : ℕ) (x y z : Scaled) (o L H : ℕ) → IsRootRatio r s → IsWithin r x → IsExact y → o ≤ 1
    → x.low * y.low ≤ L * (o + 1) + o → L < (z.low + 1) * (z.low + 1)
    → x.high * y.high ≤ H * (o + 1) → H * (o + 1) ≤ x.high * y.high + o
    → (z.high - 1) * (z.high - 1) ≤ H → H ≤ z.high * z.high → IsWithin s z
root_within r s x y z o L H next within exact few low least reaches high most above =
    let D : ℕ = 2 ^ 64 in
    let m : ℕ = next.middle in
    let q : ℕ = r * (D + 4) in
    let u : ℕ = z.high - 1 in
    let v : ℕ = z.low + 1 in
    let twice : y.high * D ≤ y.low * (D + 4) = omega (arith, exact.near, exact.bits) in
    let ratios : x.high * D * (y.high * D) ≤ x.low * r * (y.low * (D + 4)) = mul-le-mul within.ratio twice in
    let some : D ≤ r = le_of_mul-le-mul_right {k = x.high}
    (omega (arith, within.ratio, mul-le-mul_right r x.order)) (omega (arith, within.bits)) in
    let least_q : D * D ≤ q = omega (arith, mul-le-mul_right (D + 4) some) in
    let parts : u * u * (D * D) ≤ (L + 1) * q =
    rounded_parts o (u * u) (x.high * y.high) (x.low * y.low) L H (D * D) q few most high low (omega (arith, ratios))
    least_q in
    let over : L + 1 ≤ v * v = omega (arith, least) in
    let squares : (L + 1) * q ≤ v * v * (m * m) = mul-le-mul over next.square in
    let near : u * D ≤ v * m = le_of_squares (u * D) (v * m) (u * u * (D * D)) ((L + 1) * q) (omega arith) parts
    (omega (arith, squares)) in
    let wide : D ≤ m = le_of_squares D m (D * D) q (omega arith) least_q next.square in
    let positive : 0 < m = omega (arith, wide) in
    let large : 2 ^ 61 * 2 ^ 62 ≤ x.high * y.high =
    mul-le-mul {n₁ = 2 ^ 61} {m₁ = 2 ^ 62} {n₂ = x.high} {m₂ = y.high} (omega (arith, within.bits))
    (omega (arith, exact.bits, y.order)) in
    let half : 2 ^ 122 ≤ H = halves o few (omega (arith, large, reaches)) in
    let bits : 2 ^ 61 ≤ z.high = le_of_squares (2 ^ 61) z.high (2 ^ 122) H (omega arith) half above in
    record {
      bits = omega (arith, bits);
      ratio = root_rounded D z.low z.high m (s - m) s (omega arith) wide
          (omega (arith, next.rounded, mul-pos positive positive)) near (omega (arith, next.small)) bits
          (omega (arith, next.rounded));
    }
  where
    halves : (o : ℕ) {H : ℕ} → o ≤ 1 → 2 ^ 123 ≤ H * (o + 1) → 2 ^ 122 ≤ H
    halves zero few h = omega (arith, h)
    halves (suc zero) few h = omega (arith, h)
    halves (suc (suc o)) few h = absurd (omega (arith, few))

-- ---- from ends of which one is 2^18 times the other, by 64 roots

-- the root of a product is at most the half of the sum
half_of_sum : (x t : ℕ) → 4 * (x * (x + t)) ≤ (x + (x + t)) * (x + (x + t))
half_of_sum x t =
    let square : 0 ≤ t * t = omega arith in
    omega (arith, square)

roots_below_means : (x y : ℕ) → 4 * (x * y) ≤ (x + y) * (x + y)
roots_below_means x y = elim (cases_lt x y) [
  | inl less ↦
      let e : x + (y - x) ≡ y = omega (arith, less) in
      rw e at (half_of_sum x (y - x))
  | inr more ↦
      let e : y + (x - y) ≡ x = omega (arith, more) in
      omega (arith, rw e at (half_of_sum y (x - y)))
]

-- how many times the low end the high end is at most after so many roots, in units of 1 / 2^64
unfoldable pub ratio : ℕ → ℕ
ratio zero = 2 ^ 64 * 2 ^ 18
ratio (suc zero) = 513 * 2 ^ 64
ratio (suc (suc zero)) = 364 * 2 ^ 60
ratio (suc (suc (suc zero))) = 77 * 2 ^ 60
ratio (suc (suc (suc (suc zero)))) = 36 * 2 ^ 60
ratio (suc (suc (suc (suc (suc zero))))) = 25 * 2 ^ 60
ratio (suc (suc (suc (suc (suc (suc zero)))))) = 21 * 2 ^ 60
ratio (suc (suc (suc (suc (suc (suc (suc k))))))) = (ratio (suc (suc (suc (suc (suc (suc k)))))) + 2 ^ 64) / 2 + 60

-- one step where the ratio is at most 21 / 16
later : (r : ℕ) → r ≤ 21 * 2 ^ 60 → IsRootRatio r ((r + 2 ^ 64) / 2 + 60)
later r near =
    let m : ℕ = (r + 2 ^ 64) / 2 + 3 in
    let twice : r + (2 ^ 64 + 4) ≤ m + m = omega arith in
    let most : m ≤ 19 * 2 ^ 60 = omega (arith, near) in
    let gap : (r + 2 ^ 64) / 2 + 60 - m ≡ 57 = omega arith in
    let more : m + 2 ^ 64 ≤ 35 * 2 ^ 60 = omega (arith, most) in
    let products : (m + 2 ^ 64) * m ≤ 35 * 2 ^ 60 * (19 * 2 ^ 60) = mul-le-mul more most in
    record {
      middle = m;
      small = omega (arith, most);
      square = omega (arith, roots_below_means r (2 ^ 64 + 4), mul-le-mul twice twice);
      rounded = rw gap (omega (arith, products));
    }

-- after six roots
ratio_near : (k : ℕ) → ratio (suc (suc (suc (suc (suc (suc k)))))) ≤ 21 * 2 ^ 60
unfolding ratio
ratio_near zero = omega arith
ratio_near (suc k) = omega (arith, ratio_near k)

first : (r s : ℕ) → s ≤ 2 ^ 64 * 1024 → r * (2 ^ 64 + 4) ≤ (s - 2 ^ 58) * (s - 2 ^ 58)
    → 16 * ((s - 2 ^ 58 + 2 ^ 64) * (s - 2 ^ 58)) ≤ 2 ^ 128 * (s - (s - 2 ^ 58)) → IsRootRatio r s
first r s few square rounded =
    record { middle = s - 2 ^ 58; small = omega (arith, few); square = square; rounded = rounded }

pub ratio_next : (k : ℕ) → IsRootRatio (ratio k) (ratio (suc k))
unfolding ratio
ratio_next zero = first (2 ^ 64 * 2 ^ 18) (513 * 2 ^ 64) (omega arith) (omega arith) (omega arith)
ratio_next (suc zero) = first (513 * 2 ^ 64) (364 * 2 ^ 60) (omega arith) (omega arith) (omega arith)
ratio_next (suc (suc zero)) = first (364 * 2 ^ 60) (77 * 2 ^ 60) (omega arith) (omega arith) (omega arith)
ratio_next (suc (suc (suc zero))) = first (77 * 2 ^ 60) (36 * 2 ^ 60) (omega arith) (omega arith) (omega arith)
ratio_next (suc (suc (suc (suc zero)))) = first (36 * 2 ^ 60) (25 * 2 ^ 60) (omega arith) (omega arith) (omega arith)
ratio_next (suc (suc (suc (suc (suc zero))))) =
    first (25 * 2 ^ 60) (21 * 2 ^ 60) (omega arith) (omega arith) (omega arith)
ratio_next (suc (suc (suc (suc (suc (suc k)))))) =
    later (ratio (suc (suc (suc (suc (suc (suc k))))))) (ratio_near k)

pub ratio_last : ratio 64 ≤ 2 ^ 64 + 256
unfolding ratio
ratio_last = omega arith
