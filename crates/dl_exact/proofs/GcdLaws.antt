use Rattle.dl_exact.proofs.Common.{◌≡◌, ℕ, suc, zero, ◌+◌, ◌*◌, ◌/◌, ◌%◌, ◌<◌, arith, refl, ap, ◌∙◌, mul-pos, mul-lt-mul_of_pos_right, le-mul_of_pos_right, eq_of_mul-eq-mul_right, div-mul_cancel, IsGcd-from_mod, IsGcd-from_zero, gcd, mod-lt, zero-mul, div-add-mod', pos_of_dvd_of_pos, mul-div-mul_right, IsGcd, mod-mul-add, euclid}

-- one step, where the second number is no literal `suc`
euclid_step : (k a b : ℕ) → 0 < b → euclid (suc k) a b ≡ euclid k b (a % b)
unfolding euclid
euclid_step k a zero h = absurd (omega arith)
euclid_step k a (suc b) h = refl

mod_scale : (a b c : ℕ) → 0 < b → 0 < c → (a * c) % (b * c) ≡ a % b * c
mod_scale a b c hb hc =
    let e : a * c ≡ a / b * (b * c) + a % b * c = omega (arith, ap (λ x. x * c) (div-add-mod' a b)) in
    ap (λ x. x % (b * c)) e ∙ mod-mul-add (a / b) (b * c) (a % b * c) (mul-lt-mul_of_pos_right (mod-lt a hb) hc)

euclid-scale : (k a b c : ℕ) → 0 < c → euclid k (a * c) (b * c) ≡ euclid k a b * c
unfolding euclid
euclid-scale zero a b c h = refl
euclid-scale (suc k) a zero c h = rw zero-mul
euclid-scale (suc k) a (suc b) c h =
    euclid_step k (a * c) (suc b * c) (mul-pos (omega arith) h)
    ∙ ap (λ x. euclid k (suc b * c) x) (mod_scale a (suc b) c (omega arith) h)
    ∙ euclid-scale k (suc b) (a % suc b) c h

-- more steps than the second number change nothing
euclid-more : (k j a b : ℕ) → b < k → b < j → euclid k a b ≡ euclid j a b
unfolding euclid
euclid-more zero j a b h i = absurd (omega arith)
euclid-more (suc k) zero a b h i = absurd (omega arith)
euclid-more (suc k) (suc j) a zero h i = refl
euclid-more (suc k) (suc j) a (suc b) h i =
    let below : a % suc b < suc b = mod-lt a (omega arith) in
    euclid-more k j (suc b) (a % suc b) (omega arith) (omega arith)

euclid-gcd : (k a b : ℕ) → b < k → IsGcd a b (euclid k a b)
unfolding euclid
euclid-gcd zero a b h = absurd (omega arith)
euclid-gcd (suc k) a zero h = IsGcd-from_zero a zero refl
euclid-gcd (suc k) a (suc b) h =
    let below : a % suc b < suc b = mod-lt a (omega arith) in
    IsGcd-from_mod a (suc b) _ (euclid-gcd k (suc b) (a % suc b) (omega arith))

pub gcd_is : (a b : ℕ) → IsGcd a b (gcd a b)
unfolding gcd
gcd_is a b = euclid-gcd (suc b) a b (omega arith)

pub gcd-scale : (a b c : ℕ) → 0 < c → gcd (a * c) (b * c) ≡ gcd a b * c
unfolding gcd
gcd-scale a b c h =
    euclid-scale (suc (b * c)) a b c h
    ∙ ap (λ x. x * c) (euclid-more (suc (b * c)) (suc b) a b (omega (arith, le-mul_of_pos_right b h)) (omega arith))

pub gcd_pos : (a b : ℕ) → 0 < b → 0 < gcd a b
gcd_pos a b h = pos_of_dvd_of_pos (gcd_is a b).1 h

-- a number over the greatest common divisor, times that divisor
pub cut_left : (a b : ℕ) → a / gcd a b * gcd a b ≡ a
cut_left a b = div-mul_cancel (gcd a b) (gcd_is a b).0

pub cut_right : (a b : ℕ) → b / gcd a b * gcd a b ≡ b
cut_right a b = div-mul_cancel (gcd a b) (gcd_is a b).1

-- what is left after the cut is above 0, and has no common divisor but 1
pub cut_pos : (a b : ℕ) → 0 < b → 0 < b / gcd a b
cut_pos a b h = grind (arith, cut_right a b, zero-mul)

pub cut_lowest : (a b : ℕ) → 0 < b → gcd (a / gcd a b) (b / gcd a b) ≡ 1
cut_lowest a b h =
    let g = gcd a b in
    let e : gcd (a / g * g) (b / g * g) ≡ gcd (a / g) (b / g) * g = gcd-scale (a / g) (b / g) g (gcd_pos a b h) in
    let k : gcd (a / g * g) (b / g * g) ≡ g = rw (cut_left a b, cut_right a b) in
    eq_of_mul-eq-mul_right g (gcd_pos a b h) _ 1 (omega (arith, e, k))

-- the cut forgets a common factor
pub cut_scale_left : (a b c : ℕ) → 0 < b → 0 < c → a * c / gcd (a * c) (b * c) ≡ a / gcd a b
cut_scale_left a b c hb hc = ap (λ x. a * c / x) (gcd-scale a b c hc) ∙ mul-div-mul_right a (gcd a b) hc

pub cut_scale_right : (a b c : ℕ) → 0 < b → 0 < c → b * c / gcd (a * c) (b * c) ≡ b / gcd a b
cut_scale_right a b c hb hc = ap (λ x. b * c / x) (gcd-scale a b c hc) ∙ mul-div-mul_right b (gcd a b) hc
