use Rattle.dl_start.proofs.Common.{◌≡◌, ℕ, ◌-◌, ◌*◌, ◌/◌, ◌^◌, ◌≤◌, arith, refl, ap, sym, subst, ◌∙◌, pow-add, div-mul-le_self, mul-le-mul_right, whole, ◌over◌, sum_to, gamma, over_le, over_same, one_pos, AtMost, le-div, at_least_wider, none_above, none_below}
use Rattle.dl_start.proofs.Products.{two_le, two_pos}
use Rattle.dl_start.proofs.shape.any_start.Goals as goal

-- with fewer bits
coarser : (l e : ℕ) → 63 ≤ e → l / 2 ^ (e - 63) * 2 ^ e ≤ l * 2 ^ 63
coarser l e h =
    let k : ℕ = e - 63 in
    let split : 2 ^ k * 2 ^ 63 ≡ 2 ^ e = sym (pow-add 2 k 63) ∙ ap (λ t. 2 ^ t) (omega (arith, h)) in
    omega (arith, mul-le-mul_right (2 ^ 63) (div-mul-le_self l (2 ^ k)), ap (λ t. l / 2 ^ k * t) split)

pub returns-clause-holds : goal.returns-clause-holds
returns-clause-holds c r x h one =
    let e = c.args.one.exponent in
    let top : 9223372036854775808 over 2 ^ 63 ≡ whole 1 = over_same (2 ^ 63) (2 ^ 63) 1 1 (two_pos 63) one_pos refl in (
      at_least_wider (λ N. whole 1) (λ N. sum_to N (gamma r x)) _ _ (none_above r x _ h one.0)
          (over_le _ (2 ^ 63) c.args.one.low (2 ^ e) (two_pos 63) (two_pos e) (coarser c.args.one.low e c.args.one.least)),
      subst (AtMost (λ N. whole 1) (λ N. sum_to N (gamma r x))) (sym top) (none_below r x),
    )

pub returns-clause-within : goal.returns-clause-within
returns-clause-within c exact =
    let k : ℕ = c.args.one.exponent - 63 in
    let few : k ≤ 17 = omega (arith, c.requires) in
    let low : 2 ^ 45 ≤ c.args.one.low / 2 ^ k =
    le-div (2 ^ 45) c.args.one.low (2 ^ k) (two_pos k) (omega (arith, exact.bits, two_le k 17 few)) in
    record { bits = omega arith; ratio = omega (arith, low) }
