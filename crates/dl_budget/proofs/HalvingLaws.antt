-- The least number of halvings, by whole numbers.
use Rattle.dl_budget.proofs.Common.{ℕ, zero, suc, ◌≡◌, ◌+◌, ◌*◌, ◌^◌, ◌<◌, ◌≤◌, arith, inl, inr, sym, ap, subst, ◌∙◌, mul-le-mul, mul-pos, leb_tells, pow_pos, Fraction, whole, ◌over◌, ◌/ℚ◌, ◌≤ℚ◌, over_self, le_over, over_div, one_pos, ◌%◌, pow-suc, mod-le, over_le, IsHalvings, halvings_from, halvings, cases_lt}

-- m is at most 1/2 after h halvings
abbrev pub IsHalf : Fraction → ℕ → Type 0
IsHalf m h = 2 * m.num ≤ 2 ^ h * m.den

halved_is : (m : Fraction) (h : ℕ) → m /ℚ whole (2 ^ h) ≡ m.num over (m.den * 2 ^ h)
halved_is m h =
    ap (λ t. t /ℚ whole (2 ^ h)) (sym (over_self m)) ∙ over_div m.num m.den (2 ^ h) 1 m.positive one_pos (pow_pos h)
    ∙ ap (λ t. t over (m.den * 2 ^ h)) (times m.num)
  where
    times : (n : ℕ) → n * 1 ≡ n
    times n = omega arith

two_pos : 0 < 2
two_pos = omega arith

half_enough : (m : Fraction) (h : ℕ) → IsHalf m h → m /ℚ whole (2 ^ h) ≤ℚ 1 over 2
half_enough m h small =
    subst (λ x. x ≤ℚ 1 over 2) (sym (halved_is m h))
    (over_le m.num (m.den * 2 ^ h) 1 2 (mul-pos m.positive (pow_pos h)) two_pos (omega (arith, small)))

enough_half : (m : Fraction) (h : ℕ) → m /ℚ whole (2 ^ h) ≤ℚ 1 over 2 → IsHalf m h
enough_half m h enough =
    let cross : m.num * 2 ≤ 1 * (m.den * 2 ^ h) =
    le_over m.num (m.den * 2 ^ h) 1 2 (mul-pos m.positive (pow_pos h)) two_pos
    (subst (λ x. x ≤ℚ 1 over 2) (halved_is m h) enough) in
    omega (arith, cross)

pub is_halvings : (m : Fraction) (h : ℕ) → IsHalf m h → ((i : ℕ) → IsHalf m i → h ≤ i) → IsHalvings m h
is_halvings m h small least = record {
  enough = half_enough m h small;
  least = λ i enough.
      least i (enough_half m i enough);
}

pub one_halvings : (m : Fraction) (h i : ℕ) → IsHalvings m h → IsHalvings m i → h ≡ i
one_halvings m h i p q = omega (arith, p.least i q.enough, q.least h p.enough)

record LeastFrom (m : Fraction) (h r : ℕ) : Type 0 where
  half : IsHalf m r
  least : (i : ℕ) → h ≤ i → IsHalf m i → r ≤ i

found : (more h : ℕ) (m : Fraction) → IsHalf m (h + more) → LeastFrom m h (halvings_from more h m)
unfolding halvings_from
found zero h m there = record { half = subst (λ t. IsHalf m t) (same h) there; least = λ i from small. from }
  where
    same : (h : ℕ) → h + 0 ≡ h
    same h = omega arith
found (suc more) h m there = elim (leb_tells (2 * m.num) (2 ^ h * m.den)) [
  | inl here ↦ rw here.0 (record { half = here.1; least = λ i from small. from })
  | inr later ↦
      let next : h + 1 + more ≡ h + suc more = omega arith in
      let rest = found more (h + 1) m (subst (λ t. IsHalf m t) (sym next) there) in
      rw later.0 (record { half = rest.half; least = λ i from small. rest.least i (above i from small later.1) small })
]
  where
    above : (i : ℕ) → h ≤ i → IsHalf m i → 2 ^ h * m.den < 2 * m.num → h + 1 ≤ i
    above i from small later = elim (cases_lt h i) [
      | inl far ↦ omega (arith, far)
      | inr near ↦ let same : i ≡ h = omega (arith, near, from) in
          absurd (omega (arith, later, subst (λ t. IsHalf m t) same small))
    ]

at_last : (n : ℕ) → suc n ≡ 0 + (n + 1)
at_last n = omega arith

-- so many halvings are enough
many : (n : ℕ) → n + 1 ≤ 2 ^ n
many zero = omega arith
many (suc n) = omega (arith, many n, pow-suc 2 n)

pub halvings_least : (m : Fraction) → IsHalvings m (halvings m)
unfolding halvings
halvings_least m =
    let enough : IsHalf m (0 + (m.num + 1)) = subst (λ t. IsHalf m t) (at_last m.num)
    (omega (arith, mul-le-mul (many m.num) m.positive, pow-suc 2 m.num, ap (λ t. t * m.den) (pow-suc 2 m.num))) in
    let r = found (m.num + 1) 0 m enough in
    is_halvings m (halvings_from (m.num + 1) 0 m) r.half (λ i small. r.least i (omega arith) small)

-- the first number of halvings that is enough
pub first_halvings : (m : Fraction) (h : ℕ) → IsHalf m h → ((i : ℕ) → i < h → 2 ^ i * m.den < 2 * m.num)
    → IsHalvings m h
first_halvings m h here more = is_halvings m h here
    (λ i small. elim (cases_lt i h) [ inl before ↦ absurd (omega (arith, more i before, small)) | inr after ↦ after ])

pub halvings_value : (m : Fraction) (h : ℕ) → IsHalvings m h → h ≡ halvings m
halvings_value m h p = one_halvings m h (halvings m) p (halvings_least m)

-- a mean of at most 4,096
pub half_after_13 : (m : Fraction) → m ≤ℚ whole 4096 → IsHalf m 13
half_after_13 m within =
    let cross : m.num * 1 ≤ 4096 * m.den = le_over m.num m.den 4096 1 m.positive one_pos
    (subst (λ x. x ≤ℚ whole 4096) (sym (over_self m)) within) in
    omega (arith, cross)

-- a shift of one part that may lose its high bits
pub half_by_shift : (m : Fraction) (h double den M : ℕ) → double ≡ 2 * m.num → den ≡ m.den
    → double ≤ den * 2 ^ h % M → IsHalf m h
half_by_shift m h double den M e d test = omega (arith, test, mod-le (den * 2 ^ h) M, e, ap (λ t. t * 2 ^ h) d)

pub first_below_14 : (m : Fraction) → m ≤ℚ whole 4096 → halvings m ≤ 13
first_below_14 m within = (halvings_least m).least 13 (half_enough m 13 (half_after_13 m within))
