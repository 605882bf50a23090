-- How wide the share of a unit in the tail mean is, in plain numbers. S units make 1.
use Rattle.dl_shares.proofs.Common.{ℕ, ◌≡◌, ◌+◌, ◌-◌, ◌*◌, ◌/◌, ◌<◌, ◌≤◌, min, arith, ap, div_ceil, mul-le-mul, mul-le-mul_left, mul-le-mul_right, lt-div-mul-add, Fraction, whole, ◌<ℚ◌, div_ceil_least, num_below, up_quotient, quotients_apart, conditional_width, share_width}

-- ---- the conditional mean

pub lowered_narrow : (h l t : ℕ) → min h t - min l t ≤ h - l
lowered_narrow h l t = omega arith

pub conditional_narrow : (K t q w j v k h l : ℕ) → q < K → w ≤ t → j ≤ v → h - l ≤ 65536 * (q * w + j) + 2
    → k ≤ h - l → k ≤ conditional_width K v t
conditional_narrow K t q w j v k h l inside at of_joint narrow le =
    let few : q ≤ K = omega arith in
    omega (arith, mul-le-mul few at)

-- ---- its product with what the distribution has above p

pub product_narrow : (S q al ah kl kh : ℕ) → 0 < S → al ≤ ah → kl ≤ kh → ah ≤ S → kl ≤ q * S
    → div_ceil (ah * kh) S ≤ al * kl / S + 1 + ((kh - kl) + q * (ah - al))
product_narrow S q al ah kl kh pos a k small few =
    div_ceil_least (ah * kh) S _ pos (omega (
      arith,
      split al (ah - al) kl (kh - kl) ah kh (omega arith) (omega arith),
      mul-le-mul_right (kh - kl) small,
      mul-le-mul_left (ah - al) few,
      lt-div-mul-add {a = al * kl} {b = S} pos,
    ))
  where
    split : (al aw kl kw ah kh : ℕ) → ah ≡ al + aw → kh ≡ kl + kw → ah * kh ≡ al * kl + (aw * kl + ah * kw)
    split al aw kl kw ah kh e f = omega (arith, ap (λ t. ah * t) f, ap (λ t. t * kl) e)

-- what the distribution has above p, from p rounded both ways
pub above_narrow : (S n d fl fh al ah : ℕ) → 0 < d → al ≡ fl - div_ceil (S * n) d → ah ≡ fh - S * n / d
    → ah - al ≤ fh - fl + 1
above_narrow S n d fl fh al ah pos low high =
    let apart : div_ceil (S * n) d ≤ S * n / d + 1 =
    div_ceil_least (S * n) d _ pos (omega (arith, lt-div-mul-add {a = S * n} {b = d} pos)) in
    omega arith

-- ---- the whole

pub share_narrow : (p : Fraction) (K t m j f q bl bh ml mh al ah pl ph kw l h : ℕ) → p <ℚ whole 1
    → q < K → bh - bl ≤ j → ml ≤ mh → bl ≤ bh → ah - al ≤ t + 1
    → kw ≤ conditional_width K j f → ph ≤ pl + 1 + (kw + q * (ah - al))
    → l ≡ ((ml - bh) + pl) * p.den / (p.den - p.num) → h ≡ div_ceil (((mh - bl) + ph) * p.den) (p.den - p.num)
    → mh - ml ≤ m → t ≤ f → h - l ≤ share_width p m K j f
share_narrow p K t m j f q bl bh ml mh al ah pl ph kw l h below inside of_below mean order of_above of_share of_product
    low high of_mean of_total =
    let left : 0 < p.den - p.num = omega (arith, num_below p below) in
    let few : q ≤ K = omega arith in
    let grown : q * (ah - al) ≤ K * (f + 2) = mul-le-mul few (omega arith) in
    let E = m + j + 2 * K + K * (f + 2) + conditional_width K j f + 4 in
    let sums : (mh - bl) + ph ≤ ((ml - bh) + pl) + E =
    omega (
      arith,
      within ml mh bl bh pl ph m j (kw + q * (ah - al)) (conditional_width K j f + K * (f + 2)) (2 * K) of_mean of_below
          of_product (omega arith),
    ) in
    omega (
      arith,
      up_quotient (E * p.den) (p.den - p.num) left,
      quotients_apart (p.den - p.num) p.den ((ml - bh) + pl) ((mh - bl) + ph) E left sums,
    )
  where
    within : (ml mh bl bh pl ph m j x y z : ℕ) → mh - ml ≤ m → bh - bl ≤ j → ph ≤ pl + 1 + x → x ≤ y
        → (mh - bl) + ph ≤ ((ml - bh) + pl) + (m + j + z + (y + 4))
    within ml mh bl bh pl ph m j x y z a b c d = omega arith
