-- Placed cells, one by one.
use Rattle.std.proofs.Math.Nat.{div-div-eq-div-mul}
use Rattle.dl_recursion.proofs.Common.{◌≡◌, ◌⊎◌, inl, inr, ℕ, ◌+◌, ◌-◌, ◌*◌, ◌/◌, ◌^◌, ◌<◌, ◌≤◌, List, length, get_or, arith, ◌∙◌, pow-add, mul-le-mul_left, mul-le-mul_right, div-mul-le_self, lt-div-mul-add, cases_lt, sum, HasGridEnds, min, set, dvd-mul_right, eq_of_mul-eq-mul_left, get_or-set_same, get_or-set_other, sum_by-set, replicate, get_or-replicate, get_or_past, length-replicate, ap, sym}
use Prim.Native.Nat.{◌∣◌}
use Rattle.dl_start.specs.declared.scaled.Scaled.{Scaled}
use Rattle.dl_start.proofs.Products.{two_pos, two_le}

pub up_reaches : (p d e : ℕ) → 0 < p → d ≤ e → p ≤ ((p - 1) / 2 ^ d + 1) * 2 ^ e
up_reaches p d e h l = grind (arith, two_pos d, mul-le-mul_left ((p - 1) / 2 ^ d + 1) (two_le d e l), lt-div-mul-add)

-- the high word of a number, shifted down by the rest
pub high_word : (x d : ℕ) → 64 ≤ d → x / 2 ^ 64 / 2 ^ (d - 64) ≡ x / 2 ^ d
high_word x d l = div-div-eq-div-mul x (2 ^ 64) (2 ^ (d - 64))
    ∙ ap (λ n. x / n) (sym (pow-add 2 64 (d - 64)) ∙ ap (λ k. 2 ^ k) (omega (arith, l)))

-- down by as many bits as the product can have, where more are asked for
pub down_reaches : (p e x : ℕ) → p ≤ 2 ^ 62 * 2 ^ 63 → x ≤ p / 2 ^ min e 126 → x * 2 ^ e ≤ p
down_reaches p e x top h = grind (arith, div-mul-le_self p (2 ^ e), div-mul-le_self p (2 ^ 126), mul-le-mul_right)

-- ---- one cell written

-- each low end at most its high end
pub ordered_set : (lows highs : List ℕ) (x lo hi : ℕ) → x < length lows → x < length highs → lo ≤ hi
    → ((y : ℕ) → get_or lows y 0 ≤ get_or highs y 0)
    → (y : ℕ) → get_or (set lows x lo) y 0 ≤ get_or (set highs x hi) y 0
ordered_set lows highs x lo hi p q l h y =
    grind (arith, get_or-set_same lows x lo 0 p, get_or-set_same highs x hi 0 q, get_or-set_other)

-- what a low end leaves of 1
pub mass_set : (lows : List ℕ) (x lo room one : ℕ) → x < length lows → get_or lows x 0 ≡ 0 → lo ≤ room
    → sum lows + room ≡ one → sum (set lows x lo) + (room - lo) ≡ one
mass_set lows x lo room one inside none within left = grind (arith, sum_by-set (λ (e : ℕ). e) lows x lo 0 inside)

module _ (step : ℕ) (apart : 0 < step) (n : ℕ) (ends : List ℕ) (v : ℕ) where
  -- the cells past the one that is written
  pub zeros_left : ((x : ℕ) → step * n ≤ x → get_or ends x 0 ≡ 0)
      → (x : ℕ) → step * (n + 1) ≤ x → get_or (set ends (step * n) v) x 0 ≡ 0
  zeros_left h x far = get_or-set_other ends (step * n) x v 0 (λ e. absurd (omega (arith, e, far, apart)))
      ∙ h x (omega (arith, far))

  before_it : (k : ℕ) → k < n → get_or (set ends (step * n) v) (step * k) 0 ≡ get_or ends (step * k) 0
  before_it k l = get_or-set_other ends (step * n) (step * k) v 0
      (λ e. absurd (omega (arith, l, eq_of_mul-eq-mul_left step apart k n e)))

  beside_it : (x : ℕ) → ¬ (step ∣ x) → get_or (set ends (step * n) v) x 0 ≡ get_or ends x 0
  beside_it x p = get_or-set_other ends (step * n) x v 0 (λ e. p (rw e (dvd-mul_right step n)))

-- ---- its ends by the two scales

raised_low : (o p d m s : ℕ) → s ≡ d + m → o * 2 ^ d ≤ p → o * 2 ^ s ≤ p * 2 ^ m
raised_low o p d m s e h = rw (e, pow-add) (omega (arith, mul-le-mul_right (2 ^ m) h))

raised_high : (o p d m s : ℕ) → s ≡ d + m → p ≤ o * 2 ^ d → p * 2 ^ m ≤ o * 2 ^ s
raised_high o p d m s e h = rw (e, pow-add) (omega (arith, mul-le-mul_right (2 ^ m) h))

module _ (B : ℕ) (start : Scaled) (e step : ℕ) (low high lows highs : List ℕ) (lo hi down : ℕ)
    (apart : 0 < step) (scale : 61 + start.exponent ≡ down + (e + B)) where
  pub ends_more : (n : ℕ) → step * n < length lows → step * n < length highs
      → HasGridEnds B start e step n low high (λ x. get_or lows x 0) (λ x. get_or highs x 0)
      → lo * 2 ^ down ≤ get_or low n 0 * start.low → (get_or high n 0 * start.high ≤ hi * 2 ^ down) ⊎ (hi ≡ 2 ^ B)
      → HasGridEnds B start e step (n + 1) low high (λ x. get_or (set lows (step * n) lo) x 0)
      (λ x. get_or (set highs (step * n) hi) x 0)
  ends_more n p q h f g = record {
    low_end = λ k b. elim (cases_lt k n) [
      | inl l ↦ rw (before_it step apart n lows lo k l) (h.low_end k l)
      | inr l ↦
          let k_is : k ≡ n = omega (arith, b, l) in
          rw (k_is, get_or-set_same lows (step * n) lo 0 p)
          (raised_low lo (get_or low n 0 * start.low) down (e + B) (61 + start.exponent) scale f)
    ];
    high_end = λ k b. elim (cases_lt k n) [
      | inl l ↦ rw (before_it step apart n highs hi k l) (h.high_end k l)
      | inr l ↦
          let k_is : k ≡ n = omega (arith, b, l) in
          rw (k_is, get_or-set_same highs (step * n) hi 0 q) (elim g [
            | inl u ↦ inl (raised_high hi (get_or high n 0 * start.high) down (e + B) (61 + start.exponent) scale u)
            | inr u ↦ inr u
          ])
    ];
    between = λ x b. beside_it step apart n lows lo x b ∙ h.between x b;
  }

-- ---- no cell written yet

pub zero_least : (n : ℕ) → 0 ≤ n
zero_least n = omega arith

pub unset : (n x : ℕ) → get_or (replicate {A = ℕ} n 0) x 0 ≡ 0
unset n x = elim (cases_lt x n) [
  | inl l ↦ get_or-replicate n x 0 0 l
  | inr l ↦ get_or_past (replicate {A = ℕ} n 0) x 0 (rw length-replicate l)
]

pub no_ends : (B : ℕ) (start : Scaled) (e step : ℕ) (low high lows highs : List ℕ) → ((x : ℕ) → get_or lows x 0 ≡ 0)
    → HasGridEnds B start e step 0 low high (λ x. get_or lows x 0) (λ x. get_or highs x 0)
no_ends B start e step low high lows highs zeros = record {
  low_end = λ k b. absurd (omega (arith, b));
  high_end = λ k b. absurd (omega (arith, b));
  between = λ x p. zeros x;
}
