-- Sums of y * f y * g z over all y + z = x, in plain numbers: how large they are, and how far apart two of them lie
-- once rounded.
use Rattle.dl_shares.proofs.Common.{ℕ, ◌≡◌, ◌+◌, ◌-◌, ◌*◌, ◌/◌, ◌<◌, ◌≤◌, arith, ◌∙◌, div_ceil, mul-le-mul, mul-le-mul_left, mul-le-mul_right, le_of_mul-le-mul_right, lt-div-mul-add, le_trans, div_ceil_times, ceiling_reaches, count_pairs, count_below, below_more, below_le, below_times, pairs_same, pairs_within, products_apart, pairs_apart}
use Rattle.std.proofs.Math.Nat.{le_refl}

-- the sum over the first places
-- no outcome up to x is above x
weighted_le : (n x : ℕ) (f : ℕ → ℕ) → n ≤ x + 1 → count_below n (λ y. y * f y) ≤ x * count_below n f
weighted_le n x f h =
    let each : count_below n (λ y. y * f y) ≤ count_below n (λ y. f y * x) =
    below_le n _ _ (λ y b. let inside : y ≤ x = omega arith in omega (arith, mul-le-mul_right (f y) inside)) in
    omega (arith, below_times n x f)

-- the products at places that add up to s, of numbers that add up to at most p and q
pairs_under : (s p q : ℕ) (a b : ℕ → ℕ) → count_below (s + 1) a ≤ p → count_below (s + 1) b ≤ q
    → count_pairs s (λ i j. a i * b j) ≤ p * q
pairs_under s p q a b h k =
    let here = below_more s (λ s. count_pairs s (λ i j. a i * b j)) in
    let all : count_below (s + 1) (λ s. count_pairs s (λ i j. a i * b j)) ≤ count_below
    (s + 1) a * count_below (s + 1) b =
    pairs_within (s + 1) a b in
    omega (arith, mul-le-mul h k)

pub weighted_under : (x p : ℕ) (f : ℕ → ℕ) → count_below (x + 1) f ≤ p → count_below (x + 1) (λ y. y * f y) ≤ x * p
weighted_under x p f h = le_trans (weighted_le (x + 1) x f (le_refl _)) (mul-le-mul_left x h)

pub weighted_top : (x p q : ℕ) (f g : ℕ → ℕ) → count_below (x + 1) f ≤ p → count_below (x + 1) g ≤ q
    → count_pairs x (λ y z. y * f y * g z) ≤ x * p * q
weighted_top x p q f g h k = pairs_under x (x * p) q (λ y. y * f y) g (weighted_under x p f h) k

-- ---- the width

-- what the sum gains where the weights are wider by c and by d
weighted_apart : (x : ℕ) (a c b d : ℕ → ℕ)
    → count_pairs x (λ y z. y * (a y + c y) * (b z + d z))
    ≡ count_pairs x (λ y z. y * a y * b z) + products_apart (λ y. y * a y) (λ y. y * c y) b d x
weighted_apart x a c b d =
    pairs_same x (λ y z. y * (a y + c y) * (b z + d z)) (λ y z. (y * a y + y * c y) * (b z + d z)) (λ y z. omega arith)
    ∙ pairs_apart x (λ y. y * a y) (λ y. y * c y) b d

apart_top : (x one v w : ℕ) (a c b d : ℕ → ℕ) → count_below (x + 1) a ≤ one → count_below (x + 1) c ≤ v
    → count_below (x + 1) b ≤ one
    → count_below (x + 1) d ≤ w
    → products_apart (λ y. y * a y) (λ y. y * c y) b d x ≤ x * (one * w + (v * one + v * w))
unfolding products_apart
apart_top x one v w a c b d p q r t =
    let first = weighted_top x one w a d p t in
    let second = weighted_top x v one c b q r in
    let third = weighted_top x v w c d q t in
    omega arith

-- one floor and one ceiling lie at most two units further apart than what they round
pub rounded : (one low more : ℕ) → 0 < one → div_ceil (low + more) one * one ≤ (low / one + 2) * one + more
rounded one low more pos =
    let above : div_ceil (low + more) one * one < low + more + one = (div_ceil_times (low + more) one pos).1 in
    let below : low < low / one * one + one = lt-div-mul-add pos in
    omega arith

-- the same divided by one
pub divided : (x one v w more k h : ℕ) → 0 < one → h * one ≤ k * one + more → more ≤ x * (one * w + (v * one + v * w))
    → h ≤ k + x * (v + w + div_ceil (v * w) one)
divided x one v w more k h pos p q =
    le_of_mul-le-mul_right {k = one} (omega (arith, mul-le-mul_left x (ceiling_reaches (v * w) one pos))) pos

-- fewer outcomes than cells
pub enough : (x n t : ℕ) → x < n → x * t + 2 ≤ n * (t + 2 * n)
enough x n t h =
    let times : (x + 1) * t ≤ n * t = mul-le-mul_right t (omega arith) in
    let some : 1 ≤ n = omega arith in
    let one : 1 * 1 ≤ n * n = mul-le-mul some some in
    omega arith

pub weighted_width : (x n one v w : ℕ) (a c b d : ℕ → ℕ) → x < n → 0 < one
    → count_below (x + 1) a ≤ one → count_below (x + 1) c ≤ v → count_below (x + 1) b ≤ one → count_below (x + 1) d ≤ w
    → div_ceil (count_pairs x (λ y z. y * (a y + c y) * (b z + d z))) one - count_pairs x (λ y z. y * a y * b z) / one
    ≤ n * (v + w + div_ceil (v * w) one + 2 * n)
weighted_width x n one v w a c b d inside pos p q r t =
    let low = count_pairs x (λ y z. y * a y * b z) in
    let more = products_apart (λ y. y * a y) (λ y. y * c y) b d x in
    let near : div_ceil (low + more) one * one ≤ (low / one + 2) * one + more = rounded one low more pos in
    let whole = divided x one v w more (low / one + 2) (div_ceil (low + more) one) pos near
    (apart_top x one v w a c b d p q r t) in
    rw (weighted_apart x a c b d) (omega (arith, enough x n (v + w + div_ceil (v * w) one) inside))
