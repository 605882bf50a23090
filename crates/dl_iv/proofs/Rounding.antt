-- The floor and the ceiling of a quotient, as numbers and as numbers of units.
use Rattle.dl_iv.proofs.Common.{ℕ, ◌≡◌, ◌+◌, ◌-◌, ◌*◌, ◌/◌, ◌%◌, ◌<◌, ◌≤◌, ◌^◌, arith, refl, sym, ap, ◌∙◌, mul-pos, mul-le-mul_right, div-le_of_le-mul, div_ceil, Fraction, ◌over◌, ◌≤ℚ◌, div-mul-le_self, pow-le-pow_right, mul-add-div, mul-add-mod_self_left, div-add-mod, pow-add, div_ceil_times, over_le}
use Rattle.dl_exact.proofs.Laws.{le_trans as chain}

-- a ceiling reaches
pub ceiling_reaches : (n d : ℕ) → 0 < d → n ≤ div_ceil n d * d
ceiling_reaches n d h = (div_ceil_times n d h).0

-- the floor of a number is at most the ceiling of one over it by a lesser divisor
pub floor_le_ceiling : (a b d e : ℕ) → 0 < e → e ≤ d → a ≤ b → a / d ≤ div_ceil b e
floor_le_ceiling a b d e h f g =
    div-le_of_le-mul d (omega (arith, ceiling_reaches b e h, mul-le-mul_right (div_ceil b e) f))

-- a multiple of the divisor goes out whole
pub floor_apart : (d q m : ℕ) → 0 < d → (d * q + m) / d ≡ q + m / d
floor_apart d q m h = mul-add-div h q m

pub ceiling_apart : (d q m : ℕ) → 0 < d → div_ceil (d * q + m) d ≡ q + div_ceil m d
ceiling_apart d q m h =
    let rest : (d * q + m) % d ≡ m % d = mul-add-mod_self_left d q m in
    omega (arith, floor_apart d q m h, rest)

-- n / e whole units, of which d make 1, are at most n units of which e * d make 1
pub round_down : (n e d : ℕ) (x : Fraction) → 0 < e → 0 < d → n over (e * d) ≤ℚ x → (n / e) over d ≤ℚ x
round_down n e d x he hd p =
    chain _ _ _ (over_le _ _ _ _ hd (mul-pos he hd) (omega (arith, mul-le-mul_right d (div-mul-le_self n e)))) p

pub round_up : (n e d : ℕ) (x : Fraction) → 0 < e → 0 < d → x ≤ℚ n over (e * d) → x ≤ℚ div_ceil n e over d
round_up n e d x he hd p =
    chain _ _ _ p (over_le _ _ _ _ (mul-pos he hd) hd (omega (arith, mul-le-mul_right d (ceiling_reaches n e he))))

-- a product divided in two: the whole part of the first number apart
step : (n d f : ℕ) → d * (n / d * f) + n % d * f ≡ n * f
step n d f = omega (arith, ap (λ t. t * f) (div-add-mod n d))

pub floor_by_step : (n d f : ℕ) → 0 < d → n * f / d ≡ n / d * f + n % d * f / d
floor_by_step n d f h = ap (λ t. t / d) (sym (step n d f)) ∙ floor_apart d (n / d * f) (n % d * f) h

pub ceiling_by_step : (n d f : ℕ) → 0 < d → div_ceil (n * f) d ≡ n / d * f + div_ceil (n % d * f) d
ceiling_by_step n d f h = ap (λ t. div_ceil t d) (sym (step n d f)) ∙ ceiling_apart d (n / d * f) (n % d * f) h

-- the same in two steps, each by one factor
two_steps : (n d f s : ℕ) → d * ((n / d * f + n % d * f / d) * s) + n % d * f % d * s ≡ f * s * n
two_steps n d f s = omega (arith, ap (λ t. t * (f * s)) (div-add-mod n d), ap (λ t. t * s) (div-add-mod (n % d * f) d))

pub floor_by_steps : (n d f s : ℕ) → 0 < d → f * s * n / d ≡ (n / d * f + n % d * f / d) * s + n % d * f % d * s / d
floor_by_steps n d f s h = ap (λ t. t / d) (sym (two_steps n d f s)) ∙ floor_apart d _ (n % d * f % d * s) h

pub ceiling_by_steps : (n d f s : ℕ) → 0 < d
    → div_ceil (f * s * n) d ≡ (n / d * f + n % d * f / d) * s + div_ceil (n % d * f % d * s) d
ceiling_by_steps n d f s h = ap (λ t. div_ceil t d) (sym (two_steps n d f s)) ∙ ceiling_apart d _ (n % d * f % d * s) h

-- 2 is at most the units of 1
pub two_le : (b n : ℕ) → 1 ≤ b → n ≡ 2 ^ b → 2 ≤ n
two_le b n h e = rw e (pow-le-pow_right {n = 2} (omega arith) {i = 1} h)

-- a power with a small exponent is small
pub power_le : (b n k : ℕ) → n ≡ 2 ^ b → b ≤ k → n ≤ 2 ^ k
power_le b n k e h = rw e (pow-le-pow_right {n = 2} (omega arith) h)

-- the units of 1 are the product of the powers of the two halves
pub scale_of_halves : (b f s : ℕ) → f ≡ 2 ^ (b / 2) → s ≡ 2 ^ (b - b / 2) → f * s ≡ 2 ^ b
scale_of_halves b f s e k =
    let whole : b / 2 + (b - b / 2) ≡ b = omega arith in
    rw (e, k, ← pow-add 2 (b / 2) (b - b / 2), whole) refl
