use Rattle.dl_panjer.proofs.Common.{◌≡◌, ℕ, suc, ◌+◌, ◌*◌, ◌/◌, ◌^◌, ◌<◌, ◌≤◌, arith, sym, subst, subst₂, ◌∙◌, mul-pos, mul-le-mul_right, zero-lt-suc, div_ceil, div_ceil_least, floor_le_ceiling, count_below, ap₂, add-one, refl, low_term, high_term}
use Rattle.dl_panjer.proofs.Terms.{half_parts}
unfoldable use Rattle.dl_panjer.proofs.Roundings.{fall}
use Rattle.dl_panjer.proofs.Roundings.{fall_far, fall_next, fallen, near_next}
use Rattle.dl_panjer.proofs.exponential.exponential.Goals as goal

pub loop-n-init : goal.loop-n-init
unfolding low_term high_term count_below fall
loop-n-init c = record {
  low_value = refl;
  high_value = refl;
  low_partial = refl;
  high_partial = refl;
  terms = omega arith;
  near = omega arith;
  falls = omega arith;
  small = omega arith;
  one = omega arith;
  order = omega arith;
  apart = omega arith;
  within = omega arith;
}

pub loop-n-preserved : goal.loop-n-preserved
unfolding low_term high_term count_below
loop-n-preserved c =
    let i = c.loop-n.invariant in
    let n = c.loop-n.n in
    let x = c.args.x in
    let num = c.num-num.result in
    let den = c.den-den.result in
    let s = c.loop-n.low_term * num / (den * (n + 1)) in
    let t = c.div_ceil-high_term.result in
    let half : num + num ≤ den = subst₂ (λ a b. a + a ≤ b) (sym c.num-num.ensures.part) (sym c.den-den.ensures.part)
    (half_parts x c.requires) in
    let d : den * (n + 1) ≡ x.den * suc n = ap₂ (λ a b. a * b) c.den-den.ensures.part (add-one n) in
    let positive : 0 < den = c.den-den.ensures.positive in
    let dp : 0 < den * (n + 1) = subst (λ k. 0 < den * k) (sym (add-one n)) (mul-pos positive (zero-lt-suc n)) in
    let order : s ≤ t = rw c.div_ceil-high_term.ensures
    (floor_le_ceiling _ _ _ _ dp (omega arith) (mul-le-mul_right num i.terms)) in
    let near : t ≤ s + 4 = rw c.div_ceil-high_term.ensures
    (near_next c.loop-n.low_term c.loop-n.high_term num den (n + 1) positive half (omega arith) i.near) in
    let falls : t * fall (n + 1) ≤ 2 ^ 63 + 2 * fall (n + 1) =
    rw c.div_ceil-high_term.ensures (subst (λ k. div_ceil (c.loop-n.high_term * num)
    (den * k) * fall k ≤ 2 ^ 63 + 2 * fall k) (sym (add-one n))
    (fall_next (2 ^ 63) c.loop-n.high_term num den n positive half i.falls)) in
    let small : t ≤ 2 ^ 63 = rw c.div_ceil-high_term.ensures
    (div_ceil_least _ _ _ dp (omega (arith, mul-le-mul_right num i.small, half))) in
    let low_value : s ≡ low_term x (n + 1) = subst (λ k. s ≡ low_term x k) (sym (add-one n))
    (ap₂ (λ a b. a / b) (ap₂ (λ a b. a * b) i.low_value c.num-num.ensures.part) d) in
    let high_value : t ≡ high_term x (n + 1) = subst (λ k. t ≡ high_term x k) (sym (add-one n))
    (c.div_ceil-high_term.ensures ∙ ap₂ div_ceil (ap₂ (λ a b. a * b) i.high_value c.num-num.ensures.part) d) in
    record {
      low_value = low_value;
      high_value = high_value;
      low_partial = ap₂ (λ a b. a + b) (partial _ (low_term x) n i.low_partial) low_value;
      high_partial = ap₂ (λ a b. a + b) (partial _ (high_term x) n i.high_partial) high_value;
      terms = order;
      near = near;
      falls = falls;
      small = small;
      one = omega (arith, i.one);
      order = omega (arith, i.order, order);
      apart = omega (arith, i.apart, near);
      within = omega (arith, i.within, small);
    }
  where
    partial : (sum : ℕ) (term : ℕ → ℕ) (n : ℕ) → sum ≡ count_below (suc n) term → sum ≡ count_below (n + 1) term
    partial sum term n e = subst (λ k. sum ≡ count_below k term) (sym (add-one n)) e

pub returns-clause-near : goal.returns-clause-near
returns-clause-near c =
    let i = c.loop-n.invariant in
    let e : c.loop-n.n ≡ 18 = omega (arith, c.loop-n.far-n, c.loop-n-test.false) in
    let last : c.loop-n.high_term ≤ 3 =
    fallen (2 ^ 63) c.loop-n.high_term fall_far
    (subst (λ k. c.loop-n.high_term * fall k ≤ 2 ^ 63 + 2 * fall k) e i.falls) (omega (arith, fall_far)) in
    omega (arith, last, i.apart)
