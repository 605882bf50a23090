-- The mean of one positive claim of a unit beside a grid, and that times an expected number: how wide it is.
use Rattle.dl_shares.proofs.Common.{ℕ, ◌≡◌, ◌∙◌, ◌+◌, ◌-◌, ◌*◌, ◌/◌, ◌<◌, ◌≤◌, sym, subst, arith, Fraction, whole, ◌over◌, ◌-ℚ◌, Sev, weight_at, weight_sum, probability_of, severity_total, div_ceil, mul-le-mul_left, mul-le-mul_right, lt-div-mul-add, over_den, same_num, div_ceil_least, ceiling_reaches, numerator_over, positive_share, weight_at-le, gcd, gcd_is, part_divides, share_is}
use Prim.Native.Nat.{◌∣◌}

den_divides_over : (n d : ℕ) → 0 < d → (n over d).den ∣ d
den_divides_over n d h = subst (λ t. t ∣ d) (sym (over_den n d h)) (part_divides d (gcd n d) (gcd_is n d).1)

-- the weight of the positive amounts, from their probability
pub positive_weight : (sev : Sev) (share : Fraction) (n : ℕ) → share ≡ whole 1 -ℚ probability_of sev 0
    → n ≡ numerator_over sev.total share → n ≡ sev.total - weight_at sev.items 0
positive_weight sev share n is made =
    let t : ℕ = sev.total in
    let pos : 0 < t = severity_total sev in
    let told : (t - weight_at sev.items 0) over t ≡ share =
    positive_share (weight_at sev.items 0) t pos ∙ sym is in
    let divides : share.den ∣ t =
    subst (λ (x : Fraction). x.den ∣ t) told (den_divides_over (t - weight_at sev.items 0) t pos) in
    made ∙ same_num _ _ t pos (share_is share t pos divides ∙ sym told)

pub weight_parts : (sev : Sev) → weight_sum sev.items ≡ sev.total - weight_at sev.items 0 + weight_at sev.items 0
weight_parts sev = omega (arith, weight_at-le sev.items)

-- ---- widths, in units of the scale

pub claim_width : (x D W L H : ℕ) → 0 < W → H ≤ L + x * D * W → div_ceil H W ≤ L / W + (x * D + 1)
claim_width x D W L H pos h =
    let floor : L < L / W * W + W = lt-div-mul-add pos in
    div_ceil_least H W (L / W + (x * D + 1)) pos (omega arith)

pub scaled_width : (lo hi w n d : ℕ) → 0 < d → hi ≤ lo + w
    → div_ceil (hi * n) d ≤ lo * n / d + (w * div_ceil n d + 1)
scaled_width lo hi w n d pos h =
    let floor : lo * n < lo * n / d * d + d = lt-div-mul-add pos in
    let up : w * n ≤ w * (div_ceil n d * d) = mul-le-mul_left w (ceiling_reaches n d pos) in
    div_ceil_least (hi * n) d (lo * n / d + (w * div_ceil n d + 1)) pos
    (omega (arith, mul-le-mul_right n h))
