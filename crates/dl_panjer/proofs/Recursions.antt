-- Steps in whole numbers are the floors and ceilings of the recursions of Poisson and geometric counts.
use Rattle.dl_panjer.proofs.Common.{ℕ, suc, ◌≡◌, ◌+◌, ◌*◌, ◌/◌, ◌<◌, ◌^◌, Bool, true, false, length, arith, sym, ap, ◌∙◌, mul-pos, List, div_ceil, zero-lt-suc, Fraction, ◌over◌, ◌+ℚ◌, ◌*ℚ◌, ◌/ℚ◌, whole, over_same, over_add, over_mul, over_div, one_pos, floor_div, ceiling_div, Item, Iv, Rate, low_at, high_at, counted, coefficient, next_sum, low_next, high_next, Follows, FollowsRounded, over_self}
use Rattle.dl_panjer.proofs.Steps.{counted_pos}

-- p / d / k
parts_divided : (p d k : ℕ) → 0 < d → 0 < k → p over (d * k) ≡ p over d /ℚ whole k
parts_divided p d k some pos =
    over_same p (d * k) (p * 1) (d * k) (mul-pos some pos) (mul-pos some pos) (omega arith)
    ∙ sym (over_div p d k 1 some one_pos pos)

-- mean / k by the parts of the mean
pub divided : (mean : Fraction) (k : ℕ) → 0 < k → mean.num over (mean.den * k) ≡ mean /ℚ whole k
divided mean k pos =
    parts_divided mean.num mean.den k mean.positive pos ∙ ap (λ t. t /ℚ whole k) (over_self mean)

pub by_number : (x s p d : ℕ) → 0 < d → (x * p) over (suc s * d) ≡ p over d /ℚ whole (suc s) *ℚ whole x
by_number x s p d pos =
    over_same _ _ _ _ (mul-pos (zero-lt-suc s) pos) (mul-pos (mul-pos pos (zero-lt-suc s)) one_pos) (omega arith)
    ∙ sym (over_mul p (d * suc s) x 1 (mul-pos pos (zero-lt-suc s)) one_pos)
    ∙ ap (λ t. t *ℚ whole x) (parts_divided p d (suc s) pos (zero-lt-suc s))

pub by_rate : (x p d : ℕ) → 0 < d → (x * p) over d ≡ p over d *ℚ whole x
by_rate x p d pos =
    over_same _ _ _ _ pos (mul-pos pos one_pos) (omega arith) ∙ sym (over_mul p d x 1 pos one_pos)

-- the step of the loop is the rounded step, where the rate over what counts divides it is the factor
follows_rounded : {B : ℕ} (b : Bool) (factor : ℕ → Fraction) (items : List Item) (T : ℕ) (r : Rate)
    (cells : List (Iv B))
    → ((x s : ℕ) → (x * r.num) over counted b (suc s) r.den ≡ factor s *ℚ whole x)
    → Follows (low_next b items T r) (high_next (2 ^ B) b items T r) (low_at cells) (high_at cells) (length cells)
    → FollowsRounded b factor items T cells
follows_rounded b factor items T r cells is F = record {
  low = λ s inside.
      let x : ℕ = next_sum (coefficient b items) (low_at cells) s / T in
      rw (← is x s, F.low s inside) (floor_div (x * r.num) _ (there s));
  high = λ s inside.
      let y : ℕ = div_ceil (next_sum (coefficient b items) (high_at cells) s) T in (
        div_ceil (y * r.num) (counted b (suc s) r.den),
        rw (← is y s) (ceiling_div (y * r.num) _ (there s)),
        F.high s inside,
      );
}
  where
    there : (s : ℕ) → 0 < counted b (suc s) r.den
    there s = counted_pos b (suc s) r.den (zero-lt-suc s) r.positive

pub poisson_follows : {B : ℕ} (items : List Item) (T : ℕ) (r : Rate) (v : Fraction) (cells : List (Iv B))
    → r.num over r.den ≡ v
    → Follows (low_next true items T r) (high_next (2 ^ B) true items T r) (low_at cells) (high_at cells) (length cells)
    → FollowsRounded true (λ s. v /ℚ whole (suc s)) items T cells
poisson_follows items T r v cells is = follows_rounded true (λ s. v /ℚ whole (suc s)) items T r cells
    (λ x s. by_number x s r.num r.den r.positive ∙ ap (λ t. t /ℚ whole (suc s) *ℚ whole x) is)

-- ---- the geometric count

pub geometric_follows : {B : ℕ} (items : List Item) (T : ℕ) (r : Rate) (v : Fraction) (cells : List (Iv B))
    → r.num over r.den ≡ v
    → Follows (low_next false items T r) (high_next (2 ^ B) false items T r) (low_at cells) (high_at cells) (length cells)
    → FollowsRounded false (λ s. v) items T cells
geometric_follows items T r v cells is = follows_rounded false (λ s. v) items T r cells
    (λ x s. by_rate x r.num r.den r.positive ∙ ap (λ t. t *ℚ whole x) is)

pub one_and : (p d : ℕ) → 0 < d → whole 1 +ℚ p over d ≡ (p + d) over d
one_and p d pos = over_add 1 1 p d one_pos pos ∙ over_same _ _ _ _ (mul-pos one_pos pos) pos (omega arith)

-- n over n + d is beta / (1 + beta), where beta is n over d
pub rate_of : (n d : ℕ) → 0 < d → n over (n + d) ≡ n over d /ℚ (whole 1 +ℚ n over d)
rate_of n d pos =
    over_same n (n + d) (n * d) (d * (n + d)) (omega (arith, pos)) (mul-pos pos (omega (arith, pos))) (omega arith)
    ∙ sym (over_div n d (n + d) d pos pos (omega (arith, pos))) ∙ ap (λ t. n over d /ℚ t) (sym (one_and n d pos))
