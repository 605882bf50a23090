-- Equal shares of a count, together, and the ratio of a gamma count from its mean.
use Rattle.dl_start.proofs.Common.{◌≡◌, ◌≤◌, ◌-◌, sym, over_self, convolve, ℕ, suc, zero, ◌+◌, ◌*◌, ◌/◌, ◌<◌, arith, ap, ◌∙◌, mul-pos, Fraction, ◌over◌, ◌+ℚ◌, ◌/ℚ◌, whole, over_add, over_div, over_mul, over_same, one_pos, power, poisson, gamma, poisson_power, gamma_plus, gamma_power, over_one, over_plus, over_zero, plus_zero, ◌%◌, div-add-mod}
use mathlib.Core.Path.{fun_ext}

-- equal shares of a Poisson mean, together
pub shares : (num den s : ℕ) → 0 < den → 0 < s → power (poisson (num over (s * den))) s ≡ poisson (num over den)
shares num den s d p =
    poisson_power (num over (s * den)) s
    ∙ ap poisson
    (over_mul s 1 num (s * den) one_pos (mul-pos p d)
    ∙ over_same _ _ _ _ (mul-pos one_pos (mul-pos p d)) d (omega arith))

-- as many geometric counts as the shape says, together
pub shapes : (x : Fraction) (s : ℕ) → 0 < s → power (gamma (whole 1) x) s ≡ gamma (whole s) x
shapes x zero p = absurd (omega (arith, p))
shapes x (suc s) p = gamma_power s x

-- the whole part of a shape and the rest
module _ (r x : Fraction) where
  pub shape_parts : whole (r.num / r.den) +ℚ (r.num % r.den) over r.den ≡ r
  shape_parts =
      let d = r.den in
      let whole_part : (r.num / d * d) over d ≡ whole (r.num / d) =
      over_same _ _ _ _ r.positive one_pos (omega arith) in
      let n_is : r.num / d * d + r.num % d ≡ r.num = omega (arith, div-add-mod r.num d) in
      ap (λ s. s +ℚ (r.num % d) over d) (sym whole_part) ∙ over_plus (r.num / d * d) (r.num % d) d r.positive
      ∙ ap (λ n. n over d) n_is ∙ over_self r

  pub shape_whole : 0 < r.num / r.den → r.num % r.den ≡ 0 → power (gamma (whole 1) x) (r.num / r.den) ≡ gamma r x
  shape_whole p none =
      shapes x (r.num / r.den) p ∙ ap (λ s. gamma s x) (sym (plus_zero _) ∙ ap (λ s. whole (r.num / r.den) +ℚ s)
      (sym (ap (λ n. n over r.den) none ∙ over_zero r.den r.positive)) ∙ shape_parts)

  pub shape_together : 0 < r.num / r.den
      → convolve (power (gamma (whole 1) x) (r.num / r.den)) (gamma ((r.num % r.den) over r.den) x) ≡ gamma r x
  shape_together p =
      ap (λ w. convolve w (gamma ((r.num % r.den) over r.den) x)) (shapes x (r.num / r.den) p)
      ∙ fun_ext (λ n. sym (gamma_plus (whole (r.num / r.den)) ((r.num % r.den) over r.den) x n))
      ∙ ap (λ s. gamma s x) shape_parts

pub contribution_is : (num den s : ℕ) → 0 < den → 0 < s
    → num over (num + s * den) ≡ num over den /ℚ (whole s +ℚ num over den)
contribution_is num den s d p =
    grind (arith, mul-pos p d, over_add s 1 num den one_pos d, mul-pos one_pos d, over_div, over_same, mul-pos)

-- the ratio of the geometric count of mean beta
pub ratio_is : (beta : Fraction) → beta.num over (beta.num + beta.den) ≡ beta /ℚ (whole 1 +ℚ beta)
ratio_is beta =
    let e : beta.den ≡ 1 * beta.den = omega arith in
    ap (λ m. beta.num over (beta.num + m)) e
    ∙ (rw (over_self beta) at (contribution_is beta.num beta.den 1 beta.positive one_pos))

-- ---- the first binary digit of n over d: twice it is the rest, and 1 more where the digit is 1

pub digit_none : (n d : ℕ) → 0 < d → (n + n) over d ≡ n over d +ℚ n over d
digit_none n d p = sym (over_plus n n d p)

pub digit_one : (n d : ℕ) → 0 < d → d ≤ n + n → (n + n - d) over d +ℚ whole 1 ≡ n over d +ℚ n over d
digit_one n d p h =
    let e : n + n - d + d ≡ n + n = omega (arith, h) in
    ap (λ t. (n + n - d) over d +ℚ t) (sym (over_one d p)) ∙ over_plus (n + n - d) d d p
    ∙ ap (λ m. m over d) e ∙ digit_none n d p
