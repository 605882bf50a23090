-- The bounds of one step of a grid's recursion, and what it reads.
use Rattle.dl_panjer.proofs.Common.{ℕ, suc, ◌≡◌, ◌+◌, ◌-◌, ◌*◌, ◌/◌, ◌^◌, ◌<◌, ◌≤◌, Bool, true, false, List, [], ◌∷◌, length, arith, sym, ap, ap₂, ◌∙◌, mul-pos, inl, inr, cases_lt, div_ceil, zero-lt-suc, mul-le-mul_right, Rate, div_ceil_least, Iv, low_at, high_at, count_below, low_at_front, high_at_front, low_at_pushed, high_at_pushed, Item, weight_sum, counted, coefficient, next_sum, low_next, high_next, Follows, ◌++◌, min, floor_le_ceiling}
use Rattle.std.proofs.Math.Nat.{mul-le-mul, div-le_of_le-mul}
use Rattle.dl_panjer.proofs.ItemSums.{coefficients_within, next_sum_le, next_sum_rises, next_sum_same}

pub counted_pos : (b : Bool) (j n : ℕ) → 0 < j → 0 < n → 0 < counted b j n
counted_pos true j n p q = mul-pos p q
counted_pos false j n p q = q

counted_turn : (b : Bool) (j m n : ℕ) → counted b j m * n ≡ counted b j n * m
counted_turn true j m n = omega arith
counted_turn false j m n = omega arith

counted_rises : (b : Bool) (j m n : ℕ) → j ≤ m → counted b j n ≤ counted b m n
counted_rises true j m n h = mul-le-mul_right n h
counted_rises false j m n h = omega arith

module _ (b : Bool) (items : List Item) (T S : ℕ) (s : ℕ) (T_pos : 0 < T) (sum : weight_sum items ≡ T) where
  pub next_sum_within : (ends : ℕ → ℕ) → ((k : ℕ) → ends k ≤ S)
      → next_sum (coefficient b items) ends s ≤ counted b (suc s) S * T
  next_sum_within ends bound =
      let all : count_below (suc s) (coefficient b items) * S ≤ counted b (suc s) (weight_sum items) * S =
      mul-le-mul_right S (coefficients_within b s items) in
      let turned : counted b (suc s) (weight_sum items) * S ≡ counted b (suc s) S * T =
      ap (λ t. counted b (suc s) t * S) sum
      ∙ counted_turn b (suc s) T S in
      omega (arith, next_sum_le (coefficient b items) ends s S bound, all, turned)

  pub low_counted : (ends : ℕ → ℕ) → ((k : ℕ) → ends k ≤ S)
      → next_sum (coefficient b items) ends s / T ≤ counted b (suc s) S
  low_counted ends bound = div-le_of_le-mul T (omega (arith, next_sum_within ends bound))

  pub high_counted : (ends : ℕ → ℕ) → ((k : ℕ) → ends k ≤ S)
      → div_ceil (next_sum (coefficient b items) ends s) T ≤ counted b (suc s) S
  high_counted ends bound = div_ceil_least _ T _ T_pos (next_sum_within ends bound)

  module _ (rate : Rate) where
    pub low_next_le : (ends : ℕ → ℕ) → ((k : ℕ) → ends k ≤ S) → low_next b items T rate ends s ≤ S
    low_next_le ends bound =
        let x : ℕ = next_sum (coefficient b items) ends s / T in
        let product : x * rate.num ≤ counted b (suc s) S * rate.den =
        mul-le-mul (low_counted ends bound) rate.within in
        div-le_of_le-mul _ (omega (arith, product, counted_turn b (suc s) S rate.den))

    pub next_order : (lo hi : ℕ → ℕ) → ((k : ℕ) → lo k ≤ hi k) → ((k : ℕ) → lo k ≤ S)
        → low_next b items T rate lo s ≤ high_next S b items T rate hi s
    next_order lo hi order bound =
        let d : ℕ = counted b (suc s) rate.den in
        let inner : next_sum (coefficient b items) lo s / T ≤ div_ceil (next_sum (coefficient b items) hi s) T =
        floor_le_ceiling _ _ T T T_pos (omega arith) (next_sum_rises (coefficient b items) lo hi s order) in
        let outer : low_next b items T rate lo s ≤ div_ceil
        (div_ceil (next_sum (coefficient b items) hi s) T * rate.num) d =
        floor_le_ceiling _ _ d d (counted_pos b (suc s) rate.den (zero-lt-suc s) rate.positive) (omega arith)
        (mul-le-mul_right rate.num inner) in
        omega (arith, low_next_le lo bound, outer)

-- a step fits where the rate's first part, counted by any amount, is below 2^64
pub step_fits : (b : Bool) (j S x num : ℕ) → j ≤ 65536 → S ≤ 2 ^ 56 → x ≤ counted b j S → counted b 65536 num < 2 ^ 64
    → x * num < 2 ^ 128
step_fits b j S x num few scale le small =
    let turned : counted b j S * num ≡ counted b j num * S = counted_turn b j S num in
    let wide : counted b j num ≤ 2 ^ 64 = omega (arith, counted_rises b j 65536 num few, small) in
    let product : counted b j num * S ≤ 2 ^ 64 * 2 ^ 56 = mul-le-mul wide scale in
    omega (arith, mul-le-mul_right num le, turned, product)

-- the ends of the next of m cells, as the code makes them
pub cell_low : (b : Bool) (items : List Item) (T : ℕ) (rate : Rate) (ends : ℕ → ℕ) (m x total num den : ℕ) → 1 ≤ m
    → x ≡ next_sum (coefficient b items) ends (m - 1) → total ≡ T → num ≡ rate.num → den ≡ counted b m rate.den
    → x / total * num / den ≡ low_next b items T rate ends (m - 1)
cell_low b items T rate ends m x total num den some p q r t =
    let e : m ≡ suc (m - 1) = omega (arith, some) in
    ap₂ (λ u v. u / v) (ap₂ (λ u v. u * v) (ap₂ (λ u v. u / v) p q) r) (t ∙ ap (λ k. counted b k rate.den) e)

pub cell_high : (S : ℕ) (b : Bool) (items : List Item) (T : ℕ) (rate : Rate) (ends : ℕ → ℕ) (m x total num den : ℕ)
    → 1 ≤ m
    → x ≡ next_sum (coefficient b items) ends (m - 1) → total ≡ T → num ≡ rate.num → den ≡ counted b m rate.den
    → min S (div_ceil (div_ceil x total * num) den) ≡ high_next S b items T rate ends (m - 1)
cell_high S b items T rate ends m x total num den some p q r t =
    let e : m ≡ suc (m - 1) = omega (arith, some) in
    ap (min S) (ap₂ (λ u v. div_ceil u v) (ap₂ (λ u v. u * v) (ap₂ (λ u v. div_ceil u v) p q) r)
    (t ∙ ap (λ k. counted b k rate.den) e))

-- ---- a step reads only the ends up to s

pub low_next_same : (b : Bool) (items : List Item) (T : ℕ) (rate : Rate) (f g : ℕ → ℕ) (s : ℕ)
    → ((k : ℕ) → k ≤ s → f k ≡ g k) → low_next b items T rate f s ≡ low_next b items T rate g s
low_next_same b items T rate f g s h =
    ap (λ t. t / T * rate.num / counted b (suc s) rate.den) (next_sum_same (coefficient b items) f g s h)

pub high_next_same : (S : ℕ) (b : Bool) (items : List Item) (T : ℕ) (rate : Rate) (f g : ℕ → ℕ) (s : ℕ)
    → ((k : ℕ) → k ≤ s → f k ≡ g k)
    → high_next S b items T rate f s ≡ high_next S b items T rate g s
high_next_same S b items T rate f g s h =
    ap (λ t. min S (div_ceil (div_ceil t T * rate.num) (counted b (suc s) rate.den)))
    (next_sum_same (coefficient b items) f g s h)

-- ---- one more cell

-- a step that reads only the ends up to s
next_pushed : (step : (ℕ → ℕ) → ℕ → ℕ)
    → ((f g : ℕ → ℕ) (s : ℕ) → ((k : ℕ) → k ≤ s → f k ≡ g k) → step f s ≡ step g s)
    → (before after : ℕ → ℕ) (n : ℕ) → ((k : ℕ) → k < n → before k ≡ after k) → after n ≡ step before (n - 1)
    → ((s : ℕ) → suc s < n → before (suc s) ≡ step before s) → (s : ℕ) → suc s < n + 1 → after (suc s) ≡ step after s
next_pushed step reads before after n kept last old s inside = elim (cases_lt (suc s) n) [
  | inl h ↦ sym (kept (suc s) h) ∙ old s h ∙ reads before after s (λ k b. kept k (omega (arith, h, b)))
  | inr h ↦
      let e : n ≡ suc s = omega (arith, h, inside) in
      let d : n - 1 ≡ s = omega (arith, e) in
      ap after (sym e) ∙ last ∙ ap (step before) d ∙ reads before after s (λ k b. kept k (omega (arith, e, b)))
]

pub follows_pushed : {B : ℕ} (low_step high_step : (ℕ → ℕ) → ℕ → ℕ)
    → ((f g : ℕ → ℕ) (s : ℕ) → ((k : ℕ) → k ≤ s → f k ≡ g k) → low_step f s ≡ low_step g s)
    → ((f g : ℕ → ℕ) (s : ℕ) → ((k : ℕ) → k ≤ s → f k ≡ g k) → high_step f s ≡ high_step g s)
    → (cells : List (Iv B)) (cell : Iv B) (n : ℕ) → length cells ≡ n → 1 ≤ n
    → Follows low_step high_step (low_at cells) (high_at cells) n
    → cell.lo ≡ low_step (low_at cells) (length cells - 1) → cell.hi ≡ high_step (high_at cells) (length cells - 1)
    → Follows low_step high_step (low_at (cells ++ cell ∷ [])) (high_at (cells ++ cell ∷ [])) (n + 1)
follows_pushed low_step high_step low_reads high_reads cells cell n e some before low high = record {
  low = next_pushed low_step low_reads (low_at cells) (low_at (cells ++ cell ∷ [])) n
      (λ k h. sym (low_at_front cells (cell ∷ []) k (omega (arith, e, h))))
      (low_at_pushed cells cell n (sym e) ∙ (rw e at low)) before.low;
  high = next_pushed high_step high_reads (high_at cells) (high_at (cells ++ cell ∷ [])) n
      (λ k h. sym (high_at_front cells (cell ∷ []) k (omega (arith, e, h))))
      (high_at_pushed cells cell n (sym e) ∙ (rw e at high)) before.high;
}
