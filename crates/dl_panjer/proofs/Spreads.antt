-- How far apart the ends of a grid that follows the recursion lie.
use Rattle.dl_panjer.proofs.Common.{ℕ, suc, ◌≡◌, ◌+◌, ◌-◌, ◌*◌, ◌/◌, ◌<◌, ◌≤◌, Bool, true, false, List, arith, ap, ◌∙◌, mul-le-mul, div_ceil, zero-lt-suc, lt-div-mul-add, Rate, low_next, high_next, count_below, below_le, below_plus, below_times, below_pairs, Item, weight_at, weight_sum, counted, coefficient, next_sum, Follows, below_constant, pairs_plus, pairs_same, pairs_within, below_grows, div_ceil_times}
use Rattle.std.proofs.Common.{mul-le-mul_left, mul-le-mul_right, le_of_mul-le-mul_right}
use Rattle.dl_panjer.proofs.ItemSums.{weights_within}
use Rattle.dl_panjer.proofs.Steps.{counted_pos}

-- one step: D is what the sum of the high ends is above that of the low ends
pub step_width : (L D T num d lo w : ℕ) → 0 < T → 0 < d → num ≤ d → lo ≡ L / T * num / d
    → lo + w ≤ div_ceil (div_ceil (L + D) T * num) d
    → w * (d * T) ≤ D * num + 4 * (d * T)
step_width L D T num d lo w T_pos pos small low high =
    let X : ℕ = L / T in
    let Y : ℕ = div_ceil (L + D) T in
    let Z : ℕ = div_ceil (Y * num) d in
    let up : Y * T ≤ L + D + T = omega (arith, (div_ceil_times (L + D) T T_pos).1) in
    let down : L ≤ X * T + T = omega (arith, lt-div-mul-add {a = L} {b = T} T_pos) in
    let inner : Y * T ≤ X * T + D + 2 * T = omega (arith, up, down) in
    let over : Z * d ≤ Y * num + d = omega (arith, (div_ceil_times (Y * num) d pos).1) in
    let under : X * num ≤ lo * d + d = rw low (omega (arith, lt-div-mul-add {a = X * num} {b = d} pos)) in
    let top : (lo + w) * d ≤ Z * d = mul-le-mul_right d high in
    let outer : (lo + w) * d ≤ Y * num + d = omega (arith, top, over) in
    omega (
      arith,
      mul-le-mul_right T outer,
      mul-le-mul_right num inner,
      mul-le-mul_right T under,
      mul-le-mul_left T small,
    )

counted_out : (b : Bool) (j den T w C num : ℕ) → 0 < j
    → w * (counted b j den * T) ≤ counted b j C * num + 4 * (counted b j den * T)
    → w * (den * T) ≤ C * num + 4 * (den * T)
counted_out true j den T w C num pos h = le_of_mul-le-mul_right {k = j} (omega (arith, h)) pos
counted_out false j den T w C num pos h = h

-- what amounts count for is at most the cell's number times their weights
pub next_sum_counted : (b : Bool) (items : List Item) (ends : ℕ → ℕ) (s : ℕ)
    → next_sum (coefficient b items) ends s ≤ counted b (suc s) (next_sum (λ i. weight_at items (suc i)) ends s)
next_sum_counted false items ends s = omega arith
next_sum_counted true items ends s =
    let each = below_le (suc s) (λ i. suc i * weight_at items (suc i) * ends (s - i))
    (λ i. weight_at items (suc i) * ends (s - i) * suc s) (λ i inside.
    let near : suc i ≤ suc s = omega (arith, inside) in
    omega (arith, mul-le-mul_right (weight_at items (suc i) * ends (s - i)) near)) in
    omega (
      arith,
      each,
      below_pairs s (λ i k. suc i * weight_at items (suc i) * ends k),
      below_times (suc s) (suc s) (λ i. weight_at items (suc i) * ends (s - i)),
      ap (λ t. t * suc s) (below_pairs s (λ i k. weight_at items (suc i) * ends k)),
    )

next_sum_plus : (c f g : ℕ → ℕ) (s : ℕ) → next_sum c (λ k. f k + g k) s ≡ next_sum c f s + next_sum c g s
next_sum_plus c f g s = pairs_same s (λ i k. c i * (f k + g k)) (λ i k. c i * f k + c i * g k) (λ i k. omega arith)
    ∙ pairs_plus s (λ i k. c i * f k) (λ i k. c i * g k)

pub next_sum_apart : (c lo hi w : ℕ → ℕ) (s : ℕ) → ((k : ℕ) → hi k ≡ lo k + w k)
    → next_sum c hi s ≡ next_sum c lo s + next_sum c w s
next_sum_apart c lo hi w s apart =
    pairs_same s (λ i k. c i * hi k) (λ i k. c i * (lo k + w k)) (λ i k. ap (λ t. c i * t) (apart k))
    ∙ next_sum_plus c lo w s

-- the widths follow a recursion with the rate num / den, and c units of rounding a cell
unfoldable pub AreWidths : (items : List Item) (T num den c K : ℕ) (w : ℕ → ℕ) → Type 0
AreWidths items T num den c K w = (s : ℕ) → suc s < K
    → den * T * w (suc s) ≤ num * next_sum (λ i. weight_at items (suc i)) w s + c * (den * T)

module _ (b : Bool) (items : List Item) (S T : ℕ) (rate : Rate) (lo hi w : ℕ → ℕ) (K : ℕ)
    (F : Follows (low_next b items T rate) (high_next S b items T rate) lo hi K) (T_pos : 0 < T)
    (apart : (k : ℕ) → hi k ≡ lo k + w k) where
  pub widths : AreWidths items T rate.num rate.den 4 K w
  unfolding AreWidths
  widths s inside =
      let d : ℕ = counted b (suc s) rate.den in
      let L : ℕ = next_sum (coefficient b items) lo s in
      let D : ℕ = next_sum (coefficient b items) w s in
      let H : next_sum (coefficient b items) hi s ≡ L + D = next_sum_apart (coefficient b items) lo hi w s apart in
      let pos : 0 < d = counted_pos b (suc s) rate.den (zero-lt-suc s) rate.positive in
      let high : lo (suc s) + w (suc s) ≤ div_ceil (div_ceil (L + D) T * rate.num) d =
      rw (← H) (omega (arith, apart (suc s), F.high s inside)) in
      let one = step_width L D T rate.num d (lo (suc s)) (w (suc s)) T_pos pos
      (wider b (suc s) rate.num rate.den (zero-lt-suc s) rate.within) (F.low s inside) high in
      let shared : D * rate.num ≤ counted b (suc s) (next_sum (λ i. weight_at items (suc i)) w s) * rate.num =
      mul-le-mul_right rate.num (next_sum_counted b items w s) in
      omega (
        arith,
        counted_out b (suc s) rate.den T (w (suc s)) (next_sum (λ i. weight_at items (suc i)) w s) rate.num
            (zero-lt-suc s) (omega (arith, one, shared)),
      )
    where
      wider : (b : Bool) (j n d : ℕ) → 0 < j → n ≤ d → n ≤ counted b j d
      wider true j n d pos h =
          let grown : 1 * d ≤ j * d = mul-le-mul_right d pos in
          omega (arith, grown, h)
      wider false j n d pos h = h

-- all widths of the first n + 1 cells
pub all_widths : (items : List Item) (T num den c K : ℕ) (w : ℕ → ℕ) → AreWidths items T num den c K w → 0 < T
    → (n : ℕ) → suc n ≡ K → weight_sum items ≡ T
    → den * count_below n (λ s. w (suc s)) ≤ num * count_below (suc n) w + c * n * den
unfolding AreWidths
all_widths items T num den c K w step T_pos n last sum =
    let v : ℕ → ℕ = λ i. weight_at items (suc i) in
    let A : ℕ = den * T in
    let each : count_below n (λ s. w (suc s) * A) ≤ count_below n (λ s. next_sum v w s * num + c * A) =
    below_le n _ _ (λ s inside. omega (arith, step s (omega (arith, inside, last)))) in
    let pairs : count_below n (next_sum v w) ≤ count_below n v * count_below n w = pairs_within n v w in
    let within : count_below n v * count_below n w ≤ T * count_below (suc n) w =
    mul-le-mul (rw (← sum) (weights_within n items))
    (below_grows n (suc n) w (omega arith)) in
    let scaled : count_below n (next_sum v w) * num ≤ T * count_below (suc n) w * num =
    mul-le-mul_right num (omega (arith, pairs, within)) in
    le_of_mul-le-mul_right {k = T} (
    omega (
      arith,
      each,
      below_times n A (λ s. w (suc s)),
      below_plus n (λ s. next_sum v w s * num) (λ s. c * A),
      below_times n num (next_sum v w),
      below_constant n (c * A),
      scaled,
    )
    ) T_pos

-- with a rate of at most 1/2
pub half_spread : (n num den first rest all : ℕ) → 0 < den → num + num ≤ den → all ≡ first + rest
    → den * rest ≤ num * all + 4 * n * den → first ≤ 64 → all ≤ 8 * (n + 1) + 128
half_spread n num den first rest all pos half split h start =
    let doubled : (num + num) * all ≤ den * all = mul-le-mul_right all half in
    let less : rest * 2 ≤ all + 8 * n = le_of_mul-le-mul_right {k = den} (omega (arith, h, doubled)) pos in
    omega (arith, less, split, start)

-- with the rate p / (p + d), where num over den is it
pub ratio_spread : (c f n num den p d first rest all : ℕ) → 0 < den → num * (p + d) ≡ p * den → all ≡ first + rest
    → den * rest ≤ num * all + c * n * den → first ≤ f
    → all * d ≤ (c * (n + 1) + f) * (p + d)
ratio_spread c f n num den p d first rest all pos cross split h start =
    let whole : den * all ≤ num * all + (c * n + f) * den =
    omega (arith, h, ap (λ t. den * t) split, mul-le-mul_left den start) in
    let wide : den * all * (p + d) ≤ (num * all + (c * n + f) * den) * (p + d) = mul-le-mul_right (p + d) whole in
    let crossed : num * (p + d) * all ≡ p * den * all = ap (λ t. t * all) cross in
    let less : all * d ≤ (c * n + f) * (p + d) = le_of_mul-le-mul_right {k = den} (omega (arith, wide, crossed)) pos in
    let more : (c * n + f) * (p + d) ≤ (c * (n + 1) + f) * (p + d) = mul-le-mul_right (p + d) (omega arith) in
    omega (arith, less, more)
