-- A part of a tail mean: what its ends hold, how far apart they lie, and how large they are. S units make 1.
use Rattle.dl_measures.proofs.Common.{ap₂, ℕ, ◌≡◌, ◌+◌, ◌-◌, ◌*◌, ◌/◌, ◌^◌, ◌<◌, ◌≤◌, arith, sym, ap, subst, ◌∙◌, div_ceil, mul-le-mul, mul-le-mul_right, Fraction, whole, ◌+ℚ◌, ◌*ℚ◌, ◌≤ℚ◌, over_self, over_mul, over_add, over_le, le_over, one_pos, times_comm, div_ceil_least, up, up_quotient, Series, AtMost, AtLeast, at_least_wider, at_most_wider, List, [], ◌∷◌, All, All-head, All-tail, sum_by-cons, ◌<ℚ◌, mul-le-mul_left, num_below, tail_width, Term, term_width, price_width, div_ceil_times, ceiling_reaches, scaled_least, scaled_most}
use Rattle.dl_measures.proofs.TailLaws.{quotients_apart}

-- a weight is at most 1 where its first part is at most its second
pub part_of_one : (w : Fraction) → w ≤ℚ whole 1 → w.num ≤ w.den
part_of_one w h =
    omega (arith, le_over w.num w.den 1 1 w.positive one_pos (subst (λ t. t ≤ℚ whole 1) (sym (over_self w)) h))

-- ---- the ends

module _ (T O : Series) (w : Fraction) where
  pub part_least : (l k : Fraction) → AtLeast T O l → k ≤ℚ l *ℚ w → AtLeast (λ N. w *ℚ T N) O k
  part_least l k a h = at_least_wider (λ N. w *ℚ T N) O (w *ℚ l) k (scaled_least w T O l a)
      (subst (λ t. k ≤ℚ t) (times_comm l w) h)

  pub part_most : (l k : Fraction) → AtMost T O l → l *ℚ w ≤ℚ k → AtMost (λ N. w *ℚ T N) O k
  part_most l k a h = at_most_wider (λ N. w *ℚ T N) O (w *ℚ l) k (scaled_most w T O l a)
      (subst (λ t. t ≤ℚ k) (times_comm l w) h)

-- ---- the width

pub up_part : (w : Fraction) (t : ℕ) → up (w *ℚ whole t) ≡ div_ceil (t * w.num) w.den
up_part w t =
    ap up (ap (λ x. x *ℚ whole t) (sym (over_self w)) ∙ over_mul w.num w.den t 1 w.positive one_pos)
    ∙ up_quotient (w.num * t) (w.den * 1) (omega arith)
    ∙ ap₂ div_ceil (omega arith) (omega arith)

pub part_narrow : (w : Fraction) (l h t m n : ℕ) → h - l ≤ t → m ≡ l * w.num / w.den → n ≡ div_ceil (h * w.num) w.den
    → n - m ≤ up (w *ℚ whole t) + 2
part_narrow w l h t m n narrow low high =
    omega (arith, up_part w t, quotients_apart w.den w.num l h t w.positive (omega arith))

-- ---- how large it is

pub rises : (a b n d : ℕ) → 0 < d → a ≤ b → div_ceil (a * n) d ≤ div_ceil (b * n) d
rises a b n d pos h = div_ceil_least (a * n) d _ pos
    (omega (arith, mul-le-mul_right n h, ceiling_reaches (b * n) d pos))

pub tail_small : (cells mean den h : ℕ) → cells ≤ 2 ^ 97 → mean ≤ 2 ^ 97 → den ≤ 1000000000 → h ≤ cells + mean * den
    → h ≤ 2 ^ 97 * 1000000001
tail_small cells mean den h few small parts le =
    let most : mean * den ≤ 2 ^ 97 * 1000000000 = mul-le-mul small parts in omega arith

pub part_small : (w : Fraction) (h t n : ℕ) → h ≤ t → n ≡ div_ceil (h * w.num) w.den → n ≤ div_ceil (t * w.num) w.den
part_small w h t n le high = omega (arith, rises h t w.num w.den w.positive le)

-- a part rounded up is at most one unit more
pub part_units : (w : Fraction) (t n : ℕ) → n ≤ div_ceil (t * w.num) w.den → whole n ≤ℚ whole t *ℚ w +ℚ whole 1
part_units w t n h =
    subst (λ x. whole n ≤ℚ x) (sym (ap (λ x. whole t *ℚ x +ℚ whole 1) (sym (over_self w))
    ∙ ap (λ x. x +ℚ whole 1) (over_mul t 1 w.num w.den one_pos w.positive)
    ∙ over_add (t * w.num) (1 * w.den) 1 1 (omega arith) one_pos))
    (over_le n 1 _ _ one_pos (omega arith)
    (omega (arith, mul-le-mul_right w.den h, (div_ceil_times (t * w.num) w.den w.positive).1)))

-- ---- a wider mean and a wider grid never give a narrower price

tail_rises : (p : Fraction) (m n K s t : ℕ) → p <ℚ whole 1 → m ≤ n → s ≤ t → tail_width p m K s ≤ tail_width p n K t
tail_rises p m n K s t below of_mean of_spread =
    let rest : 0 < p.den - p.num = omega (arith, num_below p below) in
    let wider = rises (2 * m + 3 * K * s) (2 * n + 3 * K * t) p.den (p.den - p.num) rest
    (omega (arith, mul-le-mul_left (3 * K) of_spread)) in
    rw (
      up_quotient ((2 * m + 3 * K * s) * p.den) (p.den - p.num) rest,
      up_quotient ((2 * n + 3 * K * t) * p.den) (p.den - p.num) rest,
    )
    (omega (arith, wider))

term_rises : (term : Term) (m n K s t : ℕ) → term.p <ℚ whole 1 → m ≤ n → s ≤ t
    → term_width m K s term ≤ term_width n K t term
term_rises term m n K s t below of_mean of_spread =
    let tails = tail_rises term.p m n K s t below of_mean of_spread in
    rw (up_part term.weight (tail_width term.p m K s), up_part term.weight (tail_width term.p n K t))
    (omega (arith, rises _ _ term.weight.num term.weight.den term.weight.positive tails))

pub price_rises : (terms : List Term) (m n K s t : ℕ) → All (λ term. term.p <ℚ whole 1) terms → m ≤ n → s ≤ t
    → price_width terms m K s ≤ price_width terms n K t
price_rises [] m n K s t below of_mean of_spread = omega arith
price_rises (term ∷ terms) m n K s t below of_mean of_spread =
    omega (
      arith,
      sum_by-cons (term_width m K s) term terms,
      sum_by-cons (term_width n K t) term terms,
      term_rises term m n K s t (All-head (λ term. term.p <ℚ whole 1) term terms below) of_mean of_spread,
      price_rises terms m n K s t (All-tail (λ term. term.p <ℚ whole 1) term terms below) of_mean of_spread,
    )
