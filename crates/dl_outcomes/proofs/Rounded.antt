-- Quotients by the probability of a claim, and parts of them, rounded outward: how large they are, and how far apart.
-- S units make 1; R units are the low end of the probability of a claim, and Z units its width.
use Rattle.dl_outcomes.proofs.Common.{add-sub_of_le, sub-add_cancel, part_within, floor_le_ceiling, ℕ, zero, suc, ◌≡◌, ◌+◌, ◌-◌, ◌*◌, ◌/◌, ◌<◌, ◌^◌, ◌≤◌, min, inl, inr, arith, refl, ap, cases_lt, div_ceil, mul-le-mul, mul-le-mul_left, mul-le-mul_right, le_of_mul-le-mul_right, lt-div-mul-add, mul-pos, div-mul-le_self, div-le_of_le-mul, div_ceil_times, div_ceil_least, count_below, all_at_zero}

-- ---- sizes

-- a quotient is at most 18 times as large
pub quotient_small : (x S R : ℕ) → 0 < R → S ≤ 18 * R → div_ceil (x * S) R ≤ 18 * x
quotient_small x S R pos share = div_ceil_least (x * S) R (18 * x) pos (omega (arith, mul-le-mul_left x share))

-- so it fits a word, and what long division makes on the way
pub quotient_fits : (x S R : ℕ) → 0 < R → S ≤ 18 * R → x ≤ 2 ^ 90 → div_ceil (x * S) R ≤ 2 ^ 127
quotient_fits x S R pos share small = omega (arith, quotient_small x S R pos share)

pub rest_fits : (x y S : ℕ) → y ≤ S → S ≤ 2 ^ 56 → min x y * S < 2 ^ 128
rest_fits x y S le small = let least : min x y ≤ 2 ^ 56 = omega arith in omega (arith, mul-le-mul least small)

-- a part, by a factor below 2^37
pub scale_fits : (x a d : ℕ) → x ≤ 2 ^ 90 → 0 < d → a ≤ d → d < 2 ^ 37 → (x * a < 2 ^ 128) × (div_ceil (x * a) d ≤ x)
scale_fits x a d small pos le few =
    let less : a ≤ 2 ^ 37 - 1 = omega arith in
    (omega (arith, mul-le-mul small less), part_within x a d pos le)

-- a quotient of at most 1 fits 64 bits
pub cell_fits : (x S R : ℕ) → 0 < R → S ≤ 18 * R → S ≤ 2 ^ 56 → x ≤ S → div_ceil (x * S) R < 2 ^ 64
cell_fits x S R pos share scale small = omega (arith, quotient_small x S R pos share)

-- ---- what stands at 0 alone

pub nothing_past : (e y : ℕ) → 0 < y → 0 ≡ all_at_zero e y
unfolding all_at_zero
nothing_past e zero h = absurd (omega arith)
nothing_past e (suc y) h = refl

pub all_at : (e y : ℕ) → y ≡ 0 → e ≡ all_at_zero e y
unfolding all_at_zero
all_at e zero h = refl
all_at e (suc y) h = absurd (omega arith)

-- ---- distances

-- a part a / d of a quotient by T, rounded down, and one of a quotient by a lesser R, rounded up
pub parts_order : (x z S R T a d : ℕ) → 0 < R → R ≤ T → 0 < d → x ≤ z
    → x * S / T * a / d ≤ div_ceil (div_ceil (z * S) R * a) d
parts_order x z S R T a d pos less some order =
    floor_le_ceiling (x * S / T * a) (div_ceil (z * S) R * a) d d some (omega arith)
    (mul-le-mul_right a (floor_le_ceiling (x * S) (z * S) T R pos less (mul-le-mul_right S order)))

-- a part a / d of q and one of r, which is no greater
pub part_apart : (q r a d : ℕ) → 0 < d → a ≤ d → r ≤ q → div_ceil (q * a) d ≤ r * a / d + (q - r) + 2
part_apart q r a d pos less order = div_ceil_least (q * a) d (r * a / d + (q - r) + 2) pos
    (omega (arith, ap (λ t. t * a) (add-sub_of_le order), mul-le-mul_left (q - r) less, lt-div-mul-add {a = r * a} pos))

-- the quotients of x + w by R and of x by R + Z
pub quotient_apart : (S R Z x w q r : ℕ) → q * R ≤ (x + w) * S + R → x * S ≤ r * (R + Z) + (R + Z)
    → q * (R * (R + Z)) ≤ r * (R * (R + Z)) + S * ((R + Z) * w + Z * x) + 2 * (R * (R + Z))
quotient_apart S R Z x w q r high low = omega (arith, mul-le-mul_right (R + Z) high, mul-le-mul_right R low)

-- so do the parts of these, times R * (R + Z)
pub parts_apart : (S R Z x w a d : ℕ) → 0 < R → 0 < d → a ≤ d
    → div_ceil (div_ceil ((x + w) * S) R * a) d * (R * (R + Z))
    ≤ (x * S / (R + Z) * a / d) * (R * (R + Z)) + S * ((R + Z) * w + Z * x) + 4 * (R * (R + Z))
parts_apart S R Z x w a d pos den less =
    let q = div_ceil ((x + w) * S) R in
    let r = x * S / (R + Z) in
    let order : r ≤ q = floor_le_ceiling (x * S) ((x + w) * S) (R + Z) R pos (omega arith) (omega arith) in
    let far = quotient_apart S R Z x w q r (omega (arith, (div_ceil_times ((x + w) * S) R pos).1))
    (omega (arith, lt-div-mul-add {a = x * S} {b = R + Z} (omega arith))) in
    omega (
      arith,
      mul-le-mul_right (R * (R + Z)) (part_apart q r a d den less order),
      ap (λ t. t * (R * (R + Z))) (add-sub_of_le order),
    )

-- the ends of a cell, with what stands at 0, and lowered to 1
pub cell_apart : (S R Z x w a d low high more : ℕ) → 0 < R → 0 < d → a ≤ d → high ≤ low + more
    → (min (div_ceil (div_ceil ((x + w) * S) R * a) d + high) S - min (x * S / (R + Z) * a / d + low) S)
    * (R * (R + Z)) ≤ S * ((R + Z) * w + Z * x) + (4 + more) * (R * (R + Z))
cell_apart S R Z x w a d low high more pos den less at =
    lowered (div_ceil (div_ceil ((x + w) * S) R * a) d) (x * S / (R + Z) * a / d) (R * (R + Z))
    (S * ((R + Z) * w + Z * x)) (parts_apart S R Z x w a d pos den less)
  where
    contracts : (h l v : ℕ) → h ≤ l + v → min (h + high) S - min (l + low) S ≤ v + more
    contracts h l v p = omega arith

    lowered : (hi lo P X : ℕ) → hi * P ≤ lo * P + X + 4 * P
        → (min (hi + high) S - min (lo + low) S) * P ≤ X + (4 + more) * P
    lowered hi lo P X far = elim (cases_lt hi lo) [
      | inl l ↦ omega (arith, mul-le-mul_right P (contracts hi lo 0 (omega arith)))
      | inr l ↦ omega (
        arith,
        mul-le-mul_right P (contracts hi lo (hi - lo) (omega arith)),
        ap (λ t. t * P) (add-sub_of_le l),
      )
    ]

-- ---- sums over the cells

-- where each width is bounded so, their sum is
pub widths_sum : (n S P T Z : ℕ) (w d x e : ℕ → ℕ)
    → ((k : ℕ) → k < n → w k * P ≤ S * (T * d k + Z * x k) + (4 + e k) * P)
    → count_below n w * P ≤ S * (T * count_below n d + Z * count_below n x) + (4 * n + count_below n e) * P
unfolding count_below
widths_sum zero S P T Z w d x e h = omega arith
widths_sum (suc n) S P T Z w d x e h =
    omega (arith, widths_sum n S P T Z w d x e (λ k b. h k (omega arith)), h n (omega arith))

-- the sum of all widths, from that before and from what the low ends leave
pub spread_within : (S R Z D n w d x e : ℕ) → 0 < R → S ≤ 18 * R
    → w * (R * (R + Z)) ≤ S * ((R + Z) * d + Z * x) + (4 * n + e) * (R * (R + Z))
    → d ≤ D + Z → x ≤ R + Z → e ≤ 2 → w ≤ 18 * (D + 2 * Z) + 4 * n + 2
spread_within S R Z D n w d x e pos share sum wide mass few =
    le_of_mul-le-mul_right {k = R * (R + Z)}
    (omega (
      arith,
      mul-le-mul_left (S * (R + Z)) wide,
      mul-le-mul_left (S * Z) mass,
      mul-le-mul_right ((R + Z) * (D + 2 * Z)) share,
      mul-le-mul_right (R * (R + Z)) few,
    ))
    (mul-pos pos (omega arith))

-- low ends that fit into what no claim leaves, T of S units, fit into S units after the change
quotients_sum : (n S T : ℕ) (x : ℕ → ℕ) → count_below n (λ y. x y * S / T) * T ≤ count_below n x * S
unfolding count_below
quotients_sum zero S T x = omega arith
quotients_sum (suc n) S T x = omega (arith, quotients_sum n S T x, div-mul-le_self (x n * S) T)

parts_sum : (n a d e : ℕ) (r : ℕ → ℕ)
    → count_below n (λ y. r y * a / d + all_at_zero (e / d) y) * d ≤ count_below n r * a + e
unfolding count_below all_at_zero
parts_sum zero a d e r = omega arith
parts_sum (suc zero) a d e r = omega (arith, div-mul-le_self (r 0 * a) d, div-mul-le_self e d)
parts_sum (suc (suc n)) a d e r = omega (arith, parts_sum (suc n) a d e r, div-mul-le_self (r (suc n) * a) d)

pub lows_fit : (n S T num den : ℕ) (x : ℕ → ℕ) → 0 < T → 0 < den → num < den → count_below n x ≤ T
    → count_below n (λ y. x y * S / T * (den - num) / den + all_at_zero (S * num / den) y) ≤ S
lows_fit n S T num den x pos some less fits =
    let r : ℕ → ℕ = λ y. x y * S / T in
    let quotients : count_below n r ≤ S = le_of_mul-le-mul_right {k = T}
    (omega (arith, quotients_sum n S T x, mul-le-mul_right S fits)) pos in
    let whole : S * ((den - num) + num) ≡ S * den = ap (λ t. S * t) (sub-add_cancel (omega arith)) in
    le_of_mul-le-mul_right {k = den}
    (omega (arith, parts_sum n (den - num) den (S * num) r, mul-le-mul_right (den - num) quotients, whole)) some

-- ---- the mean

-- the part first, of a mean of at most m, and the quotient after
pub mean_within : (S R Z lo hi a d m : ℕ) → 0 < R → 0 < d → a ≤ d → S ≤ 18 * R → S ≤ 17 * (R + Z) → lo ≤ hi
    → lo ≤ m * S
    → div_ceil (div_ceil (hi * a) d * S) R - (lo * a / d) * S / (R + Z) ≤ 18 * (hi - lo + 2) + 306 * m * Z + 2
mean_within S R Z lo hi a d m pos den less share share' order inside =
    let xl = lo * a / d in
    let x = xl + (hi - lo + 2) in
    let q = div_ceil (x * S) R in
    let r = xl * S / (R + Z) in
    let near : div_ceil (hi * a) d ≤ x = omega (arith, part_apart hi lo a d den less order) in
    let up : div_ceil (div_ceil (hi * a) d * S) R ≤ q = div_ceil_least _ R q pos
    (omega (arith, mul-le-mul_right S near, (div_ceil_times (x * S) R pos).0)) in
    let far = quotient_apart S R Z xl (hi - lo + 2) q r (omega (arith, (div_ceil_times (x * S) R pos).1))
    (omega (arith, lt-div-mul-add {a = xl * S} {b = R + Z} (omega arith))) in
    let low : xl ≤ lo = div-le_of_le-mul d (omega (arith, mul-le-mul_left lo less)) in
    omega (arith, joined S R Z xl (hi - lo + 2) m q r pos share share' (omega arith) far)
  where
    joined : (S R Z x w m q r : ℕ) → 0 < R → S ≤ 18 * R → S ≤ 17 * (R + Z) → x ≤ m * S
        → q * (R * (R + Z)) ≤ r * (R * (R + Z)) + S * ((R + Z) * w + Z * x) + 2 * (R * (R + Z))
        → q ≤ r + 18 * w + 306 * m * Z + 2
    joined S R Z x w m q r pos share share' inside far =
        le_of_mul-le-mul_right {k = R * (R + Z)}
        (omega (
          arith,
          mul-le-mul_right ((R + Z) * w) share,
          mul-le-mul_left (S * Z) inside,
          mul-le-mul_right (Z * m) (mul-le-mul share share'),
        ))
        (mul-pos pos (omega arith))
