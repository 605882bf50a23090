use Rattle.dl_start.proofs.Common.{ℕ, mul-le-mul, suc, ◌+◌, ◌-◌, ◌*◌, ◌/◌, ◌^◌, ◌<◌, ◌≤◌, arith, mul-pos, mul-le-mul_left, mul-le-mul_right, div-mul-le_self, add-one, zero-lt-suc, whole, ◌over◌, ◌*ℚ◌, ◌≡◌, refl, le_refl, times_one, sum_to, poisson, div-le_self, lt_of_le_of_lt, le-div, poisson_zero, low_sum, high_sum}
use Rattle.dl_start.proofs.Products.{two_pos}
use Rattle.dl_start.proofs.Rounding.{ceil_least, word_product, ceil_reaches, floor_ceil, term_small}
use Rattle.dl_start.proofs.Beginnings.{half_over, low_term, high_term, poisson_holds}
use Rattle.dl_start.proofs.first.exponential_start.Goals as goal

-- what a step is divided by
module _ (d m den n : ℕ) (is : d ≡ den) (next : m ≡ n + 1) where
  some_steps : 0 < den → 0 < d * m
  some_steps p = mul-pos (rw is p) (omega (arith, next))

  few_steps : den < 2 ^ 64 → n < 18 → d * m ≤ 2 ^ 70
  few_steps p l =
      omega (arith, mul-le-mul {n₁ = d} {m₁ = m} {n₂ = 2 ^ 64} {m₂ = 18} (omega (arith, is, p)) (omega (arith, next, l)))

term_room : (t num d : ℕ) → t ≤ 2 ^ 63 → num < 2 ^ 64 → d ≤ 2 ^ 70 → t * num + (d - 1) ≤ 2 ^ 127 + 2 ^ 70
term_room t num d h p l = omega (arith, l, mul-le-mul {n₁ = t} {m₁ = num} {n₂ = 2 ^ 63} {m₂ = 2 ^ 64} h (omega (arith, p)))

sum_room : (sum x d : ℕ) → sum ≤ 18 * 2 ^ 63 → x ≤ 2 ^ 127 + 2 ^ 70 → sum + x / d < 2 ^ 128
sum_room sum x d h p = omega (arith, h, p, div-le_self x d)

-- 1 over the sums
high_end_small : (a : ℕ) → 2 ^ 63 ≤ a → (2 ^ 126 + (a - 1)) / a ≤ 2 ^ 63
high_end_small a h = ceil_least (2 ^ 126) a (2 ^ 63) (omega (arith, h)) (omega (arith, mul-le-mul_left (2 ^ 63) h))

ends_ordered : (T a b : ℕ) → 0 < a → a ≤ b → T / b ≤ (T + (a - 1)) / a
ends_ordered T a b p h =
    le-div (T / b) (T + (a - 1)) a p (omega (arith, div-mul-le_self T b, mul-le-mul_left (T / b) h))

pub loop-n-init : goal.loop-n-init
unfolding sum_to
loop-n-init c =
    let first : whole (2 ^ 63) *ℚ poisson (c.args.num over c.args.den) 0 ≡ whole (2 ^ 63) =
    rw (poisson_zero, times_one) refl in
    record {
      low_term = rw first (le_refl _);
      high_term = rw first (le_refl _);
      low = rw first (le_refl _);
      high = rw first (le_refl _);
      terms = omega arith;
      small = omega arith;
      order = omega arith;
      start = omega arith;
      bound = omega arith;
    }

pub overflow_mul-d : goal.overflow_mul-d
overflow_mul-d c = record {
  fits = word_product _ _ (rw c.from.ensures c.ranges.den.fits)
      (rw c.from-in-loop-n.ensures (omega (arith, c.loop-n-test.true)));
}

pub overflow_mul-low_term : goal.overflow_mul-low_term
overflow_mul-low_term c = record {
  fits = word_product _ _ (omega (arith, c.loop-n.invariant.terms, c.loop-n.invariant.small))
      (rw c.from-in-loop-n-2.ensures c.ranges.num.fits);
}

pub overflow_mul-high_term : goal.overflow_mul-high_term
overflow_mul-high_term c = record {
  fits = word_product _ _ (omega (arith, c.loop-n.invariant.small)) (rw c.from-in-loop-n-3.ensures c.ranges.num.fits);
}

pub nonzero_div-low_term : goal.nonzero_div-low_term
nonzero_div-low_term c = some_steps _ _ c.args.den c.loop-n.n c.from.ensures c.from-in-loop-n.ensures c.requires.positive

pub overflow_sub-high_term : goal.overflow_sub-high_term
overflow_sub-high_term c = some_steps _ _ c.args.den c.loop-n.n c.from.ensures c.from-in-loop-n.ensures c.requires.positive

pub nonzero_div-high_term : goal.nonzero_div-high_term
nonzero_div-high_term c = some_steps _ _ c.args.den c.loop-n.n c.from.ensures c.from-in-loop-n.ensures c.requires.positive

pub overflow_add-high_term : goal.overflow_add-high_term
overflow_add-high_term c = record {
  fits = lt_of_le_of_lt (term_room c.loop-n.high_term _ _ c.loop-n.invariant.small (rw c.from-in-loop-n-3.ensures c.ranges.num.fits)
      (few_steps _ _ c.args.den c.loop-n.n c.from.ensures c.from-in-loop-n.ensures c.ranges.den.fits c.loop-n-test.true))
      (omega arith);
}

pub overflow_add-low : goal.overflow_add-low
overflow_add-low c =
    let i = c.loop-n.invariant in
    let term : c.loop-n.low_term * c.from-in-loop-n-2.result ≤ 2 ^ 127 + 2 ^ 70 = omega (
      arith,
      term_room c.loop-n.low_term
          c.from-in-loop-n-2.result 0 (omega (arith, i.terms, i.small)) (rw c.from-in-loop-n-2.ensures c.ranges.num.fits) (omega arith),
    ) in
    record { fits = sum_room c.loop-n.low _ _ (omega (arith, i.order, i.bound, c.loop-n-test.true)) term }

pub overflow_add-high : goal.overflow_add-high
overflow_add-high c =
    let i = c.loop-n.invariant in
    record {
      fits = sum_room c.loop-n.high _ _ (omega (arith, i.bound, c.loop-n-test.true))
          (term_room c.loop-n.high_term _ _ i.small (rw c.from-in-loop-n-3.ensures c.ranges.num.fits)
          (few_steps _ _ c.args.den c.loop-n.n c.from.ensures c.from-in-loop-n.ensures c.ranges.den.fits c.loop-n-test.true));
    }

pub overflow_cast-result : goal.overflow_cast-result
overflow_cast-result c =
    let i = c.loop-n.invariant in
    omega (
      arith,
      high_end_small c.loop-n.low i.start,
      ends_ordered (2 ^ 126) c.loop-n.low (c.loop-n.high + c.loop-n.high_term)
          (omega (arith, i.start)) (omega (arith, i.order)),
    )

pub overflow_cast-result-2 : goal.overflow_cast-result-2
overflow_cast-result-2 c = omega (arith, high_end_small c.loop-n.low c.loop-n.invariant.start)

pub loop-n-preserved : goal.loop-n-preserved
loop-n-preserved c =
    let i = c.loop-n.invariant in
    let n = c.loop-n.n in
    let num = c.args.num in
    let den = c.args.den in
    let v = num over den in
    let C = whole (2 ^ 63) in
    let d = den * suc n in
    let s = c.loop-n.low_term * num / d in
    let t = (c.loop-n.high_term * num + (d - 1)) / d in
    let dp : 0 < d = mul-pos c.requires.positive (zero-lt-suc n) in
    let f = low_term num den c.requires.positive C n c.loop-n.low_term s (div-mul-le_self _ d) i.low_term in
    let g = high_term num den c.requires.positive C n c.loop-n.high_term t (ceil_reaches _ d dp) i.high_term in
    let terms : s ≤ t = floor_ceil _ _ d dp (mul-le-mul_right num i.terms) in
    let first : 1 ≤ suc n = omega arith in
    let small : t ≤ 2 ^ 63 = term_small c.loop-n.high_term num d (2 ^ 63) dp
    (omega (arith, c.requires.half, mul-le-mul_left den first)) i.small in
    rw (
      c.from.ensures,
      c.from-in-loop-n.ensures,
      c.from-in-loop-n-2.ensures,
      c.from-in-loop-n-3.ensures,
      add-one,
    ) (record {
      low_term = f;
      high_term = g;
      low = low_sum C (poisson v) n c.loop-n.low s i.low f;
      high = high_sum C (poisson v) n c.loop-n.high t i.high g;
      terms = terms;
      small = small;
      order = omega (arith, i.order, terms);
      start = omega (arith, i.start);
      bound = omega (arith, i.bound, small);
    })

pub returns-clause-holds : goal.returns-clause-holds
returns-clause-holds c =
    let i = c.loop-n.invariant in
    let a = c.loop-n.low in
    let b = c.loop-n.high + c.loop-n.high_term in
    let T = 2 ^ 63 in
    let ap' : 0 < a = omega (arith, i.start) in
    poisson_holds (c.args.num over c.args.den) c.loop-n.n T a c.loop-n.high c.loop-n.high_term
    (85070591730234615865843651857942052864 / b) ((85070591730234615865843651857942052864 + (a - 1)) / a)
    (half_over c.args.num c.args.den c.requires.positive c.requires.half) (two_pos 63) i.low i.high i.high_term
    (div-mul-le_self (T * T) b) (ceil_reaches (T * T) a ap')
