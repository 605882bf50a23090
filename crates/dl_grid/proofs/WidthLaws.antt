-- The width rule's laws, over plain numbers.
use Rattle.dl_grid.proofs.Common.{ℕ, zero, suc, ◌≡◌, ◌+◌, ◌-◌, ◌*◌, ◌^◌, ◌<◌, ◌≤◌, arith, refl, sym, ap, subst, ◌∙◌, div_ceil, mul-le-mul, le_of_mul-le-mul_right, div_ceil_times, pow_pos, add-one, mul-le-mul_left, mul-pos, pow_more}
use Rattle.dl_exact.specs.Prelude.{Fraction, ◌over◌, IsCeiling}
use Rattle.dl_exact.proofs.Over.{over_self}
use Rattle.dl_exact.proofs.RoundingLaws.{div_ceil_least, ceiling_div, ceiling_one}
use Rattle.dl_grid.specs.Width.{up, convolution_spread, Binary, one, twice, twice_and_one, next, binary, binary_spread, power_spread, mixed_spread, rounded_spread, IsSizeWithin}

pub up_ceiling : (x : Fraction) → IsCeiling x (up x)
unfolding up
up_ceiling x = subst (λ (y : Fraction). IsCeiling y (div_ceil x.num x.den)) (over_self x)
    (ceiling_div x.num x.den x.positive)

pub up_quotient : (n d : ℕ) → 0 < d → up (n over d) ≡ div_ceil n d
up_quotient n d pos = ceiling_one (n over d) (up (n over d)) (div_ceil n d) (up_ceiling (n over d))
    (ceiling_div n d pos)

pub cv_is : (S k x y : ℕ) → 0 < S → convolution_spread S k x y ≡ x + y + div_ceil (x * y) S + 2 * k
unfolding convolution_spread
cv_is S k x y pos = ap (λ t. x + y + t + 2 * k) (up_quotient (x * y) S pos)

ceiling_rises : (m n d : ℕ) → 0 < d → m ≤ n → div_ceil m d ≤ div_ceil n d
ceiling_rises m n d pos h = div_ceil_least m d (div_ceil n d) pos (omega (arith, (div_ceil_times n d pos).0))

pub cv_rises : (S k l x u y v : ℕ) → 0 < S → k ≤ l → x ≤ u → y ≤ v → convolution_spread S k x y ≤ convolution_spread S l u v
cv_rises S k l x u y v pos h p q = omega (
  arith,
  cv_is S k x y pos,
  cv_is S l u v pos,
  ceiling_rises (x * y) (u * v) S pos (mul-le-mul p q),
)

-- ---- powers

digits : (m : ℕ) → (binary (2 * m + 1) ≡ twice (binary m)) × (binary (2 * m + 2) ≡ twice_and_one (binary m))
unfolding binary next
digits zero = (refl, refl)
digits (suc m) =
    let even : binary (suc (2 * m + 2)) ≡ twice (next (binary m)) = ap next (digits m).1 in
    let odd : binary (suc (suc (2 * m + 2))) ≡ twice_and_one (next (binary m)) = ap next even in
    let one_less : 2 * suc m + 1 ≡ suc (2 * m + 2) = omega arith in
    let two_less : 2 * suc m + 2 ≡ suc (suc (2 * m + 2)) = omega arith in
    (ap binary one_less ∙ even, ap binary two_less ∙ odd)

pub pw_none : (S k b : ℕ) → power_spread S k b 0 ≡ 0
unfolding power_spread
pw_none S k b = refl

pub pw_one : (S k b : ℕ) → power_spread S k b 1 ≡ b
unfolding power_spread binary_spread binary
pw_one S k b = refl

pub pw_even : (S k b m : ℕ) → 1 ≤ m → power_spread S k b (2 * m) ≡ convolution_spread S k (power_spread S k b m) (power_spread S k b m)
unfolding power_spread binary_spread
pw_even S k b zero some = absurd (omega arith)
pw_even S k b (suc m) some =
    let twice_suc : 2 * suc m ≡ suc (2 * m + 1) = omega arith in
    ap (power_spread S k b) twice_suc ∙ ap (binary_spread S k b) (digits m).0

pub pw_odd : (S k b m : ℕ) → 1 ≤ m → power_spread S k b (2 * m + 1) ≡ convolution_spread S k (power_spread S k b (2 * m)) b
unfolding power_spread binary_spread
pw_odd S k b zero some = absurd (omega arith)
pw_odd S k b (suc m) some =
    let odd_suc : 2 * suc m + 1 ≡ suc (2 * m + 2) = omega arith in
    ap (power_spread S k b) odd_suc ∙ ap (binary_spread S k b) (digits m).1
    ∙ ap (λ even. convolution_spread S k even b) (sym (pw_even S k b (suc m) some))

-- a power of 2^h factors, by one squaring more
pub pw_doubled : (S k b h : ℕ) → power_spread S k b (2 ^ (h + 1)) ≡ convolution_spread S k (power_spread S k b (2 ^ h)) (power_spread S k b (2 ^ h))
pw_doubled S k b h =
    let more : 2 ^ (h + 1) ≡ 2 * 2 ^ h = omega (arith, pow_more 2 h) in
    ap (power_spread S k b) more ∙ pw_even S k b (2 ^ h) (pow_pos h)

spread_rises : (S k l b c : ℕ) (m : Binary) → 0 < S → k ≤ l → b ≤ c → binary_spread S k b m ≤ binary_spread S l c m
unfolding binary_spread
spread_rises S k l b c one pos p q = q
spread_rises S k l b c (twice m) pos p q =
    let half = spread_rises S k l b c m pos p q in cv_rises S k l _ _ _ _ pos p half half
spread_rises S k l b c (twice_and_one m) pos p q =
    let half = spread_rises S k l b c m pos p q in
    cv_rises S k l _ _ _ _ pos p (cv_rises S k l _ _ _ _ pos p half half) q

pub pw_rises : (S k l b c m : ℕ) → 0 < S → k ≤ l → b ≤ c → power_spread S k b m ≤ power_spread S l c m
unfolding power_spread
pw_rises S k l b c zero pos p q = omega arith
pw_rises S k l b c (suc m) pos p q = spread_rises S k l b c (binary m) pos p q

-- ---- listed counts and sums

pub mixed_none : (S k b : ℕ) → mixed_spread S k b 0 ≡ 1
unfolding mixed_spread
mixed_none S k b = refl

pub mixed_next : (S k b c : ℕ) → mixed_spread S k b (c + 1) ≡ convolution_spread S k b (mixed_spread S k b c) + 2
unfolding mixed_spread
mixed_next S k b c = ap (mixed_spread S k b) (add-one c)

pub mixed_rises : (S k l b c n : ℕ) → 0 < S → k ≤ l → b ≤ c → mixed_spread S k b n ≤ mixed_spread S l c n
unfolding mixed_spread
mixed_rises S k l b c zero pos p q = omega arith
mixed_rises S k l b c (suc n) pos p q =
    omega (arith, cv_rises S k l b c _ _ pos p q (mixed_rises S k l b c n pos p q))

-- ---- sizes

pub size_step : (S k more x y : ℕ) → 0 < S
    → (S + rounded_spread k more (convolution_spread S k x y + more)) * S ≤ (S + rounded_spread k more x) *
    (S + rounded_spread k more y)
unfolding rounded_spread
size_step S k more x y pos =
    let rounded = (div_ceil_times (x * y) S pos).1 in
    let product : x * y ≤ (x + 2 * k + 1 + more) * (y + 2 * k + 1 + more) = mul-le-mul (omega arith) (omega arith) in
    rw (cv_is S k x y pos) (omega (arith, rounded, product))

pub size_one : (S c : ℕ) → IsSizeWithin S c c
size_one S c = mul-le-mul_left c (omega arith)

-- the rest w = S - c - d in place of differences
joined_by : (S c d w x y z : ℕ) → 0 < S → w + c + d ≡ S → (S + x) * (w + d) ≤ S * S → (S + y) * (w + c) ≤ S * S
    → (S + z) * S ≤ (S + x) * (S + y)
    → (S + z) * w ≤ S * S
joined_by S c d w x y z pos e hx hy hz =
    let parts : w * S ≤ (w + d) * (w + c) = omega (arith, ap (λ t. w * t) e) in
    let left : (S + z) * S * (w * S) ≤ (S + x) * (S + y) * ((w + d) * (w + c)) = mul-le-mul hz parts in
    let right : (S + x) * (w + d) * ((S + y) * (w + c)) ≤ S * S * (S * S) = mul-le-mul hx hy in
    le_of_mul-le-mul_right {k = S * S} (omega (arith, left, right)) (mul-pos pos pos)

-- a size in the form that multiplies, and back
product_of : (S c u x : ℕ) → u + c ≡ S → x * u ≤ c * S → (S + x) * u ≤ S * S
product_of S c u x e h = omega (arith, h, ap (λ t. S * t) e)

product_back : (S c u x : ℕ) → u + c ≡ S → (S + x) * u ≤ S * S → x * u ≤ c * S
product_back S c u x e h = omega (arith, h, ap (λ t. S * t) e)

pub size_joined : (S c d x y z : ℕ) → 0 < S → c + d ≤ S → IsSizeWithin S c x → IsSizeWithin S d y
    → (S + z) * S ≤ (S + x) * (S + y) → IsSizeWithin S (c + d) z
size_joined S c d x y z pos room hx hy hz =
    let first : S - c ≡ (S - (c + d)) + d = omega arith in
    let second : S - d ≡ (S - (c + d)) + c = omega arith in
    product_back S (c + d) (S - (c + d)) z (omega arith) (
    joined_by S c d (S - (c + d)) x y z pos (omega arith)
    (product_of S c (S - (c + d) + d) x (omega arith) (rw first at hx))
    (product_of S d (S - (c + d) + c) y (omega arith) (rw second at hy)) hz
    )
