-- How large spreads grow, over plain numbers. S is the scale, and a size is a spread with what one more convolution
-- rounds.
use Rattle.dl_budget.proofs.Common.{IsPlanScale, ℕ, ◌≡◌, ◌+◌, ◌-◌, ◌*◌, ◌^◌, ◌<◌, ◌≤◌, arith, refl, sym, ap, subst, ◌∙◌, mul-le-mul, mul-le-mul_left, mul-le-mul_right, pow-le-pow_right, le_of_mul-le-mul_right, pow_pos, div_ceil, most_operands, div_ceil_least, convolution_spread, power_spread, rounded_spread, IsSizeWithin, most_claims_budget, size_step, size_joined, pw_even, pw_odd}

-- a size is within itself, and within what is greater
pub size_least : (S c x : ℕ) → x ≤ c → IsSizeWithin S c x
size_least S c x h = mul-le-mul h (omega arith)

-- where c is at most S / (n + 1), what is at most c / (1 - c/S) is at most c and an n-th of it
pub size_near : (n S c x : ℕ) → 0 < S → (n + 1) * c ≤ S → IsSizeWithin S c x → n * x ≤ (n + 1) * c
size_near n S c x pos far size =
    let rest : n * S ≤ (n + 1) * (S - c) = left n S c far in
    let part : x * (n * S) ≤ x * ((n + 1) * (S - c)) = mul-le-mul_left x rest in
    let more : (n + 1) * (x * (S - c)) ≤ (n + 1) * (c * S) = mul-le-mul_left (n + 1) size in
    le_of_mul-le-mul_right {k = S} (omega (arith, part, more)) pos
  where
    left : (n S c : ℕ) → (n + 1) * c ≤ S → n * S ≤ (n + 1) * (S - c)
    left n S c far =
        let sum : (S - c) + c ≡ S = omega (arith, far) in
        omega (arith, far, ap (λ t. n * t) sum, ap (λ t. 1 * t) sum)

pub spread_near : (n S k more c x : ℕ) → 0 < S → (n + 1) * c ≤ S → IsSizeWithin S c (rounded_spread k more x)
    → n * x ≤ (n + 1) * c
unfolding rounded_spread
spread_near n S k more c x pos far size =
    omega (arith, size_near n S c (x + 2 * k + 1 + more) pos far size, mul-le-mul_left n (less x k more))
  where
    less : (x k more : ℕ) → x ≤ x + 2 * k + 1 + more
    less x k more = omega arith

-- one step
pub size_step_of : (S k more c d x y z : ℕ) → 0 < S → c + d ≤ S → IsSizeWithin S c (rounded_spread k more x)
    → IsSizeWithin S d (rounded_spread k more y)
    → z ≡ convolution_spread S k x y + more → IsSizeWithin S (c + d) (rounded_spread k more z)
size_step_of S k more c d x y z pos room hx hy e =
    size_joined S c d _ _ _ pos room hx hy
    (subst (λ t. (S + rounded_spread k more t) * S ≤ (S + rounded_spread k more x) * (S + rounded_spread k more y))
    (sym e) (size_step S k more x y pos))

-- ---- at the scales of plans

scale_least : (B : ℕ) → IsPlanScale B → 2 ^ 48 ≤ 2 ^ B
scale_least B scale = pow-le-pow_right {n = 2} (omega arith) {i = 48} {j = B} scale.least

-- what is at most 2^40 is at most 1/64 of them, what is at most 2^44 at most 1/16, and what is at most 2^45 at most 1/8
pub far_below : (B c : ℕ) → IsPlanScale B → c ≤ 2 ^ 40 → 64 * c ≤ 2 ^ B
far_below B c scale h = omega (arith, h, scale_least B scale)

pub a_sixteenth : (B c : ℕ) → IsPlanScale B → c ≤ 2 ^ 44 → 16 * c ≤ 2 ^ B
a_sixteenth B c scale h = omega (arith, h, scale_least B scale)

pub an_eighth : (B c : ℕ) → IsPlanScale B → c ≤ 2 ^ 45 → 8 * c ≤ 2 ^ B
an_eighth B c scale h = omega (arith, h, scale_least B scale)

-- one step that stays below
pub within_step : (B k more c d n x y z : ℕ) → IsPlanScale B → c + d ≡ n → n ≤ 2 ^ 45
    → IsSizeWithin (2 ^ B) c (rounded_spread k more x) → IsSizeWithin (2 ^ B) d (rounded_spread k more y)
    → z ≡ convolution_spread (2 ^ B) k x y + more → IsSizeWithin (2 ^ B) n (rounded_spread k more z)
within_step B k more c d n x y z e sum room hx hy step =
    subst (λ t. IsSizeWithin (2 ^ B) t (rounded_spread k more z)) sum
    (size_step_of (2 ^ B) k more c d x y z (pow_pos B) (omega (arith, sum, an_eighth B n e room)) hx hy step)

-- the spread of a unit
pub unit_small : (B k more c x : ℕ) → IsPlanScale B → c ≤ most_operands
    → IsSizeWithin (2 ^ B) c (rounded_spread k more x) → x ≤ most_claims_budget
unit_small B k more c x e room size =
    let bound = spread_near 63 (2 ^ B) k more c x (pow_pos B) (far_below B c e (omega arith)) size in
    omega arith

-- ---- powers

-- a square, and a square with one more
pub square_size : (B k b m n x y : ℕ) → IsPlanScale B → m + m ≡ n → n * rounded_spread k 0 b ≤ most_operands
    → IsSizeWithin (2 ^ B) (m * rounded_spread k 0 b) (rounded_spread k 0 x)
    → y ≡ convolution_spread (2 ^ B) k x x → IsSizeWithin (2 ^ B) (n * rounded_spread k 0 b) (rounded_spread k 0 y)
square_size B k b m n x y e sum room size step =
    within_step B k 0 _ _ _ x x y e (omega (arith, ap (λ t. t * rounded_spread k 0 b) sum)) (omega (arith, room))
    size size (step ∙ omega arith)

pub next_size : (B k b m n x y : ℕ) → IsPlanScale B → m + 1 ≡ n → n * rounded_spread k 0 b ≤ most_operands
    → IsSizeWithin (2 ^ B) (m * rounded_spread k 0 b) (rounded_spread k 0 x)
    → y ≡ convolution_spread (2 ^ B) k x b → IsSizeWithin (2 ^ B) (n * rounded_spread k 0 b) (rounded_spread k 0 y)
next_size B k b m n x y e sum room size step =
    within_step B k 0 _ (rounded_spread k 0 b) _ x b y e (omega (arith, ap (λ t. t * rounded_spread k 0 b) sum))
    (omega (arith, room)) size (size_least (2 ^ B) _ _ (omega arith)) (step ∙ omega arith)

-- a smaller power has room too
pub room_below : (c m n : ℕ) → m ≤ n → n * c ≤ most_operands → m * c ≤ most_operands
room_below c m n h room = omega (arith, room, mul-le-mul_right c h)

pub base_small : (k more b n : ℕ) → 1 ≤ n → n * rounded_spread k more b ≤ most_operands → b ≤ most_claims_budget
unfolding rounded_spread
base_small k more b n some room = omega (arith, room_below (b + 2 * k + 1 + more) 1 n some room)

pub square_value : (S k b m n x y : ℕ) → 1 ≤ m → m + m ≡ n → x ≡ power_spread S k b m → y ≡ convolution_spread S k x x → y ≡ power_spread S k b n
square_value S k b m n x y some sum half step =
    let double : 2 * m ≡ n = omega (arith, sum) in
    step ∙ ap (λ t. convolution_spread S k t t) half ∙ sym (pw_even S k b m some) ∙ ap (power_spread S k b) double

pub next_value : (S k b m n x y : ℕ) → 1 ≤ m → m + m + 1 ≡ n → x ≡ power_spread S k b (m + m) → y ≡ convolution_spread S k x b → y ≡ power_spread S k b n
next_value S k b m n x y some sum even step =
    let double : m + m ≡ 2 * m = omega arith in
    let more : 2 * m + 1 ≡ n = omega (arith, sum) in
    step ∙ ap (λ t. convolution_spread S k t b) (even ∙ ap (power_spread S k b) double) ∙ sym (pw_odd S k b m some) ∙ ap (power_spread S k b) more

-- a square's, and that of one more, from the half
pub odd_size : (B k b m n x y z : ℕ) → IsPlanScale B → m + m + 1 ≡ n → n * rounded_spread k 0 b ≤ most_operands
    → IsSizeWithin (2 ^ B) (m * rounded_spread k 0 b) (rounded_spread k 0 x) → y ≡ convolution_spread (2 ^ B) k x x
    → z ≡ convolution_spread (2 ^ B) k y b
    → (y ≤ most_claims_budget) × IsSizeWithin (2 ^ B) (n * rounded_spread k 0 b) (rounded_spread k 0 z)
odd_size B k b m n x y z e sum room half square step =
    let less : (m + m) * rounded_spread k 0 b ≤ most_operands =
    room_below (rounded_spread k 0 b) (m + m) n (omega arith) room in
    let even = square_size B k b m (m + m) x y e refl less half square in
    (unit_small B k 0 _ y e less even, next_size B k b (m + m) n y z e sum room even step)

-- the product of two spreads of at most 2^45, over the scale
pub joined_small : (B x y : ℕ) → IsPlanScale B → x ≤ 2 ^ 45 → y ≤ 2 ^ 45 → div_ceil (x * y) (2 ^ B) ≤ 2 ^ 42
joined_small B x y scale left right =
    div_ceil_least (x * y) (2 ^ B) (2 ^ 42) (pow_pos B)
    (omega (arith, mul-le-mul left right, scale_least B scale))
