-- What a clause cedes, over the common denominator of its shares.
use Rattle.dl_plan.proofs.Common.{ℕ, ◌≡◌, ◌∙◌, ◌*◌, ◌/◌, ◌<◌, ◌≤◌, true, false, List, [], ◌∷◌, Option, Some, None, sym, ap, ap₂, subst, arith, mul-pos, mul-le-mul_right, All, sum_by, All-nil, All-cons, All-tail, sum_by-cons, div-mul_cancel, ◌∣◌, Fraction, whole, ◌over◌, ◌*ℚ◌, ◌≤ℚ◌, gcd_is, over_self, over_same, over_mul, over_sub, le_over, CedeLayer, Clause, layer, layer_shares, layer_parts, kept_parts, parts_in_bucket, ◌%◌, div-mul-le_self, div-add-mod, mod-eq-zero_of_dvd, cut_right, over_den, IsWhole, ceded, kept, over_zero, over_plus}
use Rattle.dl_exact.specs.Prelude.{◌+ℚ◌, sum_over}
use Rattle.dl_plan.proofs.CommonDenominators.{den_divides, common_from_pos}

-- ---- one layer

pub layer_le : (limit : Option ℕ) (a x : ℕ) → layer limit a x ≤ x
layer_le None a x = omega arith
layer_le (Some l) a x = omega arith

pub num_le_den : (x : Fraction) → x ≤ℚ whole 1 → x.num ≤ x.den
num_le_den x h =
    grind (arith, le_over x.num x.den 1 1 x.positive (omega arith) (subst (λ y. y ≤ℚ whole 1) (sym (over_self x)) h))

-- a share of at most 1 takes at most all of the parts
pub scaled_le : (x : Fraction) (c : ℕ) → x ≤ℚ whole 1 → x.num * (c / x.den) ≤ c
scaled_le x c h = omega (arith, mul-le-mul_right (c / x.den) (num_le_den x h), div-mul-le_self c x.den)

-- ---- all layers

ceded_one : (l : CedeLayer) (c x : ℕ) → 0 < c → l.share.den ∣ c
    → l.share *ℚ whole (layer l.limit l.attach x) ≡ layer_parts c x l over c
ceded_one l c x h d =
    let t = layer l.limit l.attach x in
    let n = l.share.num in
    let q = c / l.share.den in
    let back : q * l.share.den ≡ c = div-mul_cancel l.share.den d in
    ap (λ y. y *ℚ whole t) (sym (over_self l.share))
    ∙ over_mul n l.share.den t 1 l.share.positive (omega arith)
    ∙ over_same (n * t) (l.share.den * 1) (n * q * t) c (mul-pos l.share.positive (omega arith)) h
    (omega (arith, ap (λ k. n * t * k) back))

pub ceded_over : (layers : List CedeLayer) (c x : ℕ) → 0 < c → All (λ l. l.share.den ∣ c) layers
    → ceded layers x ≡ sum_by (layer_parts c x) layers over c
unfolding sum_over
ceded_over [] c x h d = sym (over_zero c h)
ceded_over (l ∷ ls) c x h d =
    ap₂ (λ y z. y +ℚ z) (ceded_one l c x h (d 0 l (omega arith)))
    (ceded_over ls c x h (All-tail (λ k. k.share.den ∣ c) l ls d))
    ∙ over_plus (layer_parts c x l) (sum_by (layer_parts c x) ls) c h
    ∙ ap (λ n. n over c) (sym (sum_by-cons (layer_parts c x) l ls))

pub kept_over : (clause : Clause) (c x : ℕ) → 0 < c → All (λ l. l.share.den ∣ c) clause.1
    → kept clause x ≡ kept_parts clause c x over c
kept_over (true, layers) c x h d = grind (arith, ceded_over layers c x h d, over_sub, over_same)
kept_over (false, layers) c x h d = ceded_over layers c x h d

-- ---- whole numbers

pub whole_if : (n d : ℕ) → 0 < d → n % d ≡ 0 → n over d ≡ whole (n / d)
whole_if n d h e = over_same n d (n / d) 1 h (omega arith) (omega (arith, div-add-mod n d))

pub whole_only : (n d : ℕ) → 0 < d → (n over d).den ≡ 1 → n % d ≡ 0
whole_only n d h e = grind (arith, cut_right n d, over_den n d h, gcd_is n d, mod-eq-zero_of_dvd)

-- ---- over the common denominator

pub bucket_pos : (clause : Clause) → 0 < parts_in_bucket clause
bucket_pos clause = common_from_pos 1 (layer_shares clause.1) (omega arith)

share_divides : (c : ℕ) (layers : List CedeLayer) → All (λ x. x.den ∣ c) (layer_shares layers)
    → All (λ l. l.share.den ∣ c) layers
share_divides c [] d = All-nil (λ l. l.share.den ∣ c)
share_divides c (l ∷ ls) d =
    All-cons (λ k. k.share.den ∣ c) l ls (d 0 l.share (omega arith))
    (share_divides c ls (All-tail (λ x. x.den ∣ c) l.share (layer_shares ls) d))

pub kept_is : (clause : Clause) (x : ℕ) → kept clause x
    ≡ kept_parts clause (parts_in_bucket clause) x over parts_in_bucket clause
kept_is clause x = grind (arith, bucket_pos clause, den_divides 1 (layer_shares clause.1), kept_over, share_divides)

pub kept_whole : (clause : Clause) (x c p : ℕ) → c ≡ parts_in_bucket clause
    → p ≡ kept_parts clause (parts_in_bucket clause) x → p % c ≡ 0 → kept clause x ≡ whole (p / c)
kept_whole clause x c p bucket parts e = grind (arith, kept_is clause x, whole_if p c (rw bucket (bucket_pos clause)) e)

pub kept_only : (clause : Clause) (x c p : ℕ) → c ≡ parts_in_bucket clause
    → p ≡ kept_parts clause (parts_in_bucket clause) x → IsWhole (kept clause x) → p % c ≡ 0
kept_only clause x c p bucket parts e = grind (arith, kept_is clause x, bucket_pos clause, whole_only)
