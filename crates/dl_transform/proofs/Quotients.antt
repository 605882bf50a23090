-- What one product modulo p needs.
use Rattle.dl_transform.proofs.Common.{ℕ, ◌≡◌, ◌+◌, ◌-◌, ◌*◌, ◌/◌, ◌%◌, ◌^◌, ◌<◌, ◌≤◌, arith, ap, ◌∙◌, mul-le-mul_left, mul-le-mul_right, Same, div-mul-le_self, div-add-mod', lt-div-mul-add, lt_of_mul-lt-mul_right}
use Rattle.dl_transform.proofs.Residues.{same_by, same_trans, same_mod, same_times, same_refl, same_plus, same_sym, same_cancel}

-- the quotient times p is at most the product
pub quotient_low : (x w q p : ℕ) → q * p ≤ w * 2 ^ 64 → x * q / 2 ^ 64 * p ≤ x * w
quotient_low x w q p h = omega (arith, mul-le-mul_right p (div-mul-le_self (x * q) (2 ^ 64)), mul-le-mul_left x h)

-- and lacks less than 2 * p
pub quotient_high : (x w q p : ℕ) → 0 < p → x < 2 ^ 64 → w * 2 ^ 64 < q * p + p → x * w < x * q / 2 ^ 64 * p + 2 * p
quotient_high x w q p pos small h =
    let k = x * q / 2 ^ 64 in
    let a : x * q < k * 2 ^ 64 + 2 ^ 64 = lt-div-mul-add {a = x * q} {b = 2 ^ 64} (omega arith) in
    let b : (x * q + 1) * p ≤ (k * 2 ^ 64 + 2 ^ 64) * p = mul-le-mul_right p (omega (arith, a)) in
    let c : x * (w * 2 ^ 64) ≤ x * (q * p + p) = mul-le-mul_left x (omega (arith, h)) in
    let d : (x + 1) * p ≤ 2 ^ 64 * p = mul-le-mul_right p (omega (arith, small)) in
    lt_of_mul-lt-mul_right (2 ^ 64) (omega (arith, a, b, c, d, pos))

-- what is left leaves the same remainder
pub left_same : (p a b k : ℕ) → k * p ≤ a → b ≡ a - k * p → Same p b a
left_same p a b k h e = same_by p b a k 0 (omega (arith, h, e))

-- a with a multiple of p added is a multiple of 2^64
filled : (a k p : ℕ) → (p * k + 1) % 2 ^ 64 ≡ 0 → (a + (a % 2 ^ 64 * k) % 2 ^ 64 * p) % 2 ^ 64 ≡ 0
filled a k p h =
    let R = 2 ^ 64 in
    let m : Same R ((a % R * k) % R) (a * k) =
    same_trans (same_mod R (a % R * k)) (same_times (same_mod R a) (same_refl R k)) in
    let s : Same R (a + (a % R * k) % R * p) (a + a * k * p) =
    same_plus (same_refl R a) (same_times m (same_refl R p)) in
    let e : Same R (a * (p * k + 1)) (a * 0) = same_times (same_refl R a) (record { is = h }) in
    let f : a + a * k * p ≡ a * (p * k + 1) = omega arith in
    let g : a * 0 ≡ 0 = omega arith in
    s.is ∙ ap (λ t. t % R) f ∙ e.is ∙ ap (λ t. t % R) g

pub filled_same : (p a k : ℕ) → (p * k + 1) % 2 ^ 64 ≡ 0
    → Same p ((a + (a % 2 ^ 64 * k) % 2 ^ 64 * p) / 2 ^ 64 * 2 ^ 64) a
filled_same p a k h =
    let m = (a % 2 ^ 64 * k) % 2 ^ 64 in
    let d : (a + m * p) / 2 ^ 64 * 2 ^ 64 + (a + m * p) % 2 ^ 64 ≡ a + m * p = div-add-mod' (a + m * p) (2 ^ 64) in
    same_by p ((a + m * p) / 2 ^ 64 * 2 ^ 64) a 0 m (omega (arith, d, filled a k p h))

pub less_same : (most x p k : ℕ) → most ≤ x → most ≡ k * p → Same p (x - most) x
less_same most x p k h e = same_by p (x - most) x k 0 (omega (arith, h, e))

pub parted : (p u a v w b n : ℕ) → w ≤ p → 0 < p → n + b ≡ a + 2 * p → Same p a u → Same p b (v * w)
    → Same p n (u + (p - w) * v)
parted p u a v w b n wp pos e h k =
    let f : (p - w) * v + v * w ≡ v * p = whole p w v wp in
    let low : Same p (n + b) a = same_by p (n + b) a 0 2 (omega (arith, e)) in
    let high : Same p (u + (p - w) * v + b) u =
    same_trans (same_plus (same_refl p (u + (p - w) * v)) k)
    (same_by p (u + (p - w) * v + v * w) u 0 v (omega (arith, f))) in
    same_cancel p n (u + (p - w) * v) b pos (same_trans low (same_trans h (same_sym high)))
  where
    whole : (p w v : ℕ) → w ≤ p → (p - w) * v + v * w ≡ v * p
    whole p w v h = let e : p - w + w ≡ p = omega arith in omega (arith, ap (λ t. t * v) e)

pub joined : (p u v w b n : ℕ) → n + v ≡ u + 2 * p → Same p b (n * w) → Same p (b + w * v) (w * u)
joined p u v w b n e h =
    same_trans (same_plus h (same_refl p (w * v)))
    (same_by p (n * w + w * v) (w * u) 0 (2 * w) (omega (arith, ap (λ t. t * w) e)))
