-- From the excess over the low end of a bracket to the tail mean.
use Rattle.dl_measures.proofs.Common.{ℕ, suc, ◌≡◌, inl, inr, ◌+◌, ◌-◌, ◌*◌, ◌/◌, ◌^◌, ◌<◌, ◌≤◌, min, List, length, arith, sym, ap, ap₂, subst, subst₂, ◌∙◌, Some, None, div_ceil, mul-le-mul, mul-le-mul_right, pow_pos, cases_lt, Fraction, whole, ◌over◌, ◌+ℚ◌, ◌-ℚ◌, ◌*ℚ◌, ◌≤ℚ◌, ◌<ℚ◌, over_self, over_same, over_le, over_lt, one_pos, lt_not_le, Iv, low_at, high_at, spread, IsGrid, IsBound, AtMost, AtLeast, Holds, count_below, Loss, One, Cdf, Layer, partial_sums, total, Encloses, IsQuantile, AreDeclared, low_cdf, high_cdf, IsTight, at_most_wider, are_units, quantity_bounded, IsFirstAtLeast, IsFirstFound, num_below, div-add-mod', get_or, mul-le-mul_left, mul-pos, div-mul-le_self, div-le_self, mod-lt, add-sub_of_le, ◌/ℚ◌, over_add, over_mul, over_div, le_of_lt, lt_of_le_of_lt, size_of, width_within, Tail, tail_width, sum_by-le, div_ceil_least, ceiling_reaches, up_quotient, masses_fit, tail_most, tail_start, tail_bracket}
use Rattle.dl_measures.proofs.Sums.{low_high, low_most}
use Rattle.dl_measures.proofs.CellEnds.{cdf_ends}

-- ---- what p leaves of 1

module _ (p : Fraction) (below : p <ℚ whole 1) where
  pub rest_above : 0 < p.den - p.num
  rest_above = omega (arith, num_below p below)

  pub rest : Fraction
  rest = (p.den - p.num) over p.den

  pub parts : p +ℚ rest ≡ whole 1
  unfolding rest
  parts =
      ap (λ t. t +ℚ (p.den - p.num) over p.den) (sym (over_self p))
      ∙ over_add p.num p.den (p.den - p.num) p.den p.positive p.positive
      ∙ over_same _ _ 1 1 (mul-pos p.positive p.positive) one_pos
      (whole_again p.num p.den (omega (arith, num_below p below)))
    where
      whole_again : (n d : ℕ) → n ≤ d → (n * d + (d - n) * d) * 1 ≡ 1 * (d * d)
      whole_again n d h = omega (arith, ap (λ t. t * d) (add-sub_of_le h))

  pub rest_pos : whole 0 <ℚ rest
  unfolding rest
  rest_pos = over_lt 0 1 (p.den - p.num) p.den one_pos p.positive (omega (arith, rest_above))

  pub inverse : whole 1 /ℚ rest ≡ p.den over (p.den - p.num)
  unfolding rest
  inverse = over_div 1 1 (p.den - p.num) p.den one_pos p.positive rest_above
      ∙ ap₂ (λ s t. s over t) (times_one p.den) (times_one (p.den - p.num))
    where
      times_one : (n : ℕ) → 1 * n ≡ n
      times_one n = omega arith

-- ---- the ends in numbers: k over d is what p leaves of 1

module _ (S k d a : ℕ) (s : 0 < S) (pos : 0 < k) where
  part : (x : ℕ) → d over k *ℚ x over S ≡ (d * x) over (k * S)
  part x = over_mul d k x S pos s

  from_a : (x : ℕ) → whole a +ℚ d over k *ℚ x over S ≡ (a * (k * S) + d * x * 1) over (1 * (k * S))
  from_a x = ap (λ t. whole a +ℚ t) (part x) ∙ over_add a 1 (d * x) (k * S) one_pos (mul-pos pos s)

  pub low_below : (c w l m : ℕ) → c * w ≤ l → m ≡ a * S + (l - c * w) * d / k
      → m over S +ℚ whole c *ℚ (d over k *ℚ w over S) ≤ℚ whole a +ℚ d over k *ℚ l over S
  low_below c w l m enough is =
      subst₂ (λ x y. x ≤ℚ y)
      (sym (ap (λ t. m over S +ℚ t) (ap (λ t. whole c *ℚ t) (part w)
      ∙ over_mul c 1 (d * w) (k * S) one_pos (mul-pos pos s))
      ∙ over_add m S (c * (d * w)) (1 * (k * S)) s (mul-pos one_pos (mul-pos pos s))))
      (sym (from_a l))
      (over_le _ _ _ _ (mul-pos s (mul-pos one_pos (mul-pos pos s))) (mul-pos one_pos (mul-pos pos s))
      (omega (arith, mul-le-mul_right (S * (k * S)) numbers)))
    where
      scaled : (t o : ℕ) → l ≡ t + o → (q : ℕ) → q * k ≤ t * d → (a * S + q) * k + o * d ≤ a * S * k + d * l
      scaled t o split q below = omega (arith, ap (λ x. d * x) split)

      numbers : m * k + c * (d * w) ≤ a * S * k + d * l
      numbers = omega (
        arith,
        scaled (l - c * w) (c * w) (omega arith) ((l - c * w) * d / k)
            (div-mul-le_self ((l - c * w) * d) k),
        ap (λ x. x * k) is,
      )

  pub high_above : (h n : ℕ) → n ≡ a * S + div_ceil (h * d) k → whole a +ℚ d over k *ℚ h over S ≤ℚ n over S
  high_above h n is =
      subst (λ x. x ≤ℚ n over S) (sym (from_a h))
      (over_le _ _ _ _ (mul-pos one_pos (mul-pos pos s)) s (omega (arith, mul-le-mul_right S numbers)))
    where
      numbers : a * (k * S) + d * h ≤ n * k
      numbers = omega (arith, ceiling_reaches (h * d) k pos, ap (λ x. x * k) is)

-- ---- the ends hold the tail mean

-- below a bracket the distribution is at most p
pub short_of : (us : List Loss) (S K : ℕ) (lo hi : ℕ → ℕ) (p : Fraction) (a : ℕ) → AreDeclared us → 0 < S
    → Encloses S K lo hi (total us) → IsFirstAtLeast (high_cdf S hi) p K a
    → (x : ℕ) → x < a → AtMost (partial_sums us (Cdf x)) (partial_sums us One) p
short_of us S K lo hi p a declared s e first x before =
    at_most_wider (partial_sums us (Cdf x)) (partial_sums us One) (high_cdf S hi x) p
    (cdf_ends us S K lo hi (are_units us declared) s e x (omega arith)).1
    (le_of_lt _ _ (first.before x before))

module _ (us : List Loss) (p : Fraction) (S a b w : ℕ) (s : 0 < S) (declared : AreDeclared us) (below : p <ℚ whole 1)
    (near : (x : ℕ) → a ≤ x → x < b → AtLeast (partial_sums us (Cdf x)) (partial_sums us One) (p -ℚ w over S)) where
  weight : (u : Fraction) × IsBound (partial_sums us One) u
  weight = quantity_bounded us One declared tt

  -- whatever number stands for the quantile
  pub tail_low : a ≤ b → ((x : ℕ) → x < a → AtMost (partial_sums us (Cdf x)) (partial_sums us One) p)
      → AtLeast (partial_sums us (Cdf b)) (partial_sums us One) p → (l m : ℕ)
      → AtLeast (partial_sums us (Layer None a)) (partial_sums us One) (l over S)
      → m ≡ a * S + (l - (b - a) * w) * p.den / (p.den - p.num)
      → (q : ℕ) → AtLeast (partial_sums us (Tail p q)) (partial_sums us One) (m over S)
  tail_low order before reached l m excess e q = elim (cases_lt l ((b - a) * w)) [
    | inl less ↦ subst (λ t. AtLeast (partial_sums us (Tail p q)) (partial_sums us One) t)
        (sym (over_same m S a 1 s one_pos (none less)))
        (tail_start us (are_units us declared) p (rest p below) weight.0 weight.1 (parts p below) (rest_pos p below)
        a before q)
    | inr enough ↦ tail_bracket us (are_units us declared) p (rest p below) weight.0 weight.1 (parts p below)
        (rest_pos p below) a before b (w over S) (l over S) (m over S) order near reached excess
        (subst (λ t. m over S +ℚ whole (b - a) *ℚ (t *ℚ w over S) ≤ℚ whole a +ℚ t *ℚ l over S) (sym (inverse p below))
        (low_below S (p.den - p.num) p.den a s (rest_above p below) (b - a) w l m enough e)) q
  ]
    where
      none : l < (b - a) * w → m * 1 ≡ a * S
      none less = omega (
        arith,
        div-le_self ((l - (b - a) * w) * p.den) (p.den - p.num),
        ap (λ t. t * p.den) (nothing_left l ((b - a) * w) less),
      )
        where
          nothing_left : (x y : ℕ) → x < y → x - y ≡ 0
          nothing_left x y h = omega arith

  pub tail_high : (q l h n : ℕ) → IsQuantile (partial_sums us) q p → a ≤ q → q ≤ b
      → Holds (partial_sums us (Layer None a)) (partial_sums us One) (l over S) (h over S)
      → n ≡ a * S + div_ceil (h * p.den) (p.den - p.num)
      → AtMost (partial_sums us (Tail p q)) (partial_sums us One) (n over S)
  tail_high q l h n is from to excess e =
      at_most_wider (partial_sums us (Tail p q)) (partial_sums us One) _ (n over S)
      (tail_most us p (rest p below) (w over S) weight.0 a b q (are_units us declared) weight.1 (parts p below)
      (rest_pos p below) is from to near (l over S) (h over S) excess)
      (subst (λ t. whole a +ℚ t *ℚ h over S ≤ℚ n over S) (sym (inverse p below))
      (high_above S (p.den - p.num) p.den a s (rest_above p below) h n e))

-- ---- how wide and how large they are

-- a quotient rounded up and one rounded down
pub quotients_apart : (k d x y D : ℕ) → 0 < k → y ≤ x + D → div_ceil (y * d) k ≤ x * d / k + 1 + div_ceil (D * d) k
quotients_apart k d x y D pos h = div_ceil_least (y * d) k _ pos
    (omega (arith, mul-le-mul_right d h, ceiling_reaches (D * d) k pos, below_next (x * d) k pos))
  where
    below_next : (n k : ℕ) → 0 < k → n ≤ (n / k + 1) * k
    below_next n k pos = omega (arith, div-add-mod' n k, mod-lt n pos)

pub tail_narrow : (p : Fraction) (S a b K w M l h m n : ℕ) → p <ℚ whole 1 → a ≤ K → b ≤ K → h - l ≤ M + a * w
    → m ≡ a * S + (l - (b - a) * w) * p.den / (p.den - p.num) → n ≡ a * S + div_ceil (h * p.den) (p.den - p.num)
    → n - m ≤ tail_width p M K w
tail_narrow p S a b K w M l h m n below a_in b_in narrow low high =
    omega (
      arith,
      up_quotient ((2 * M + 3 * K * w) * p.den) (p.den - p.num) (rest_above p below),
      quotients_apart (p.den - p.num) p.den (l - (b - a) * w) h (2 * M + 3 * K * w) (rest_above p below)
          (omega (arith, mul-le-mul_right w a_in, mul-le-mul_right w (further a b K b_in))),
    )
  where
    further : (a b K : ℕ) → b ≤ K → b - a ≤ K
    further a b K h = omega arith

-- a number rounded up after a division
ceiling_within : (x k : ℕ) → 0 < k → div_ceil x k ≤ x
ceiling_within x k pos = div_ceil_least x k x pos (omega (arith, mul-le-mul_left x pos))

pub tail_most_units : (p : Fraction) (S a K M h n : ℕ) → p <ℚ whole 1 → a ≤ K → h ≤ M
    → n ≡ a * S + div_ceil (h * p.den) (p.den - p.num) → n ≤ K * S + M * p.den
tail_most_units p S a K M h n below a_in small high =
    omega (
      arith,
      mul-le-mul_right S a_in,
      mul-le-mul_right p.den small,
      ceiling_within (h * p.den) (p.den - p.num) (rest_above p below),
    )

pub product_most : (h d : ℕ) → h ≤ 2 ^ 97 → d ≤ 1000000000 → h * d ≤ 2 ^ 97 * 1000000000
product_most h d small few = mul-le-mul small few

pub quotient_fits : (h d k : ℕ) → 0 < k → h ≤ 2 ^ 97 → d ≤ 1000000000 → div_ceil (h * d) k ≤ 2 ^ 97 * 1000000000
quotient_fits h d k pos small few = omega (arith, ceiling_within (h * d) k pos, product_most h d small few)

spread_most : {B : ℕ} (cells : List (Iv B)) → IsGrid cells → spread cells ≤ length cells * 2 ^ B
spread_most {B} cells grid = sum_by-le (λ (cell : Iv B). cell.hi - cell.lo) (2 ^ B) cells
    (λ k d inside. omega (arith, width_within (get_or cells k d), grid.small k d inside))

-- the spread of a grid, over so many cells
pub slack_fits : {B : ℕ} (cells : List (Iv B)) (n : ℕ) → IsGrid cells → n ≤ length cells → n * spread cells ≤ 2 ^ 84
slack_fits cells n grid inside =
    omega (arith, mul-le-mul inside (spread_most cells grid), masses_fit (size_of cells grid))

-- ---- the bracket of a quantile

-- the low end of the distribution does not reach p before the high end does
pub in_order : {B : ℕ} (cells : List (Iv B)) (p : Fraction) (a b : ℕ) → IsGrid cells
    → IsFirstAtLeast (high_cdf (2 ^ B) (high_at cells)) p (length cells) a
    → IsFirstFound (low_cdf (2 ^ B) (low_at cells)) p (length cells) (Some b) → a ≤ b
in_order {B} cells p a b grid high low = elim (cases_lt b a) [
  | inr after ↦ after
  | inl before ↦ absurd (lt_not_le _ _ (lt_of_le_of_lt _ _ _ (ends b) (high.before b before)) (low.1.reached low.0))
]
  where
    ends : (x : ℕ) → low_cdf (2 ^ B) (low_at cells) x ≤ℚ high_cdf (2 ^ B) (high_at cells) x
    ends x = over_le _ _ _ _ (pow_pos B) (pow_pos B)
        (mul-le-mul_right (2 ^ B) (both (count_below (suc x) (low_at cells)) (2 ^ B)
        (count_below (suc x) (high_at cells))
        (low_most cells (suc x) grid) (low_high cells (suc x))))
      where
        both : (l s h : ℕ) → l ≤ s → l ≤ h → l ≤ min s h
        both l s h p q = omega arith

-- inside its bracket the distribution is near p
pub near_level : (us : List Loss) (K a b : ℕ) (p d : Fraction) → b ≤ K → IsTight (partial_sums us) K a (Some b) p d
    → (x : ℕ) → a ≤ x → x < b → AtLeast (partial_sums us (Cdf x)) (partial_sums us One) (p -ℚ d)
near_level us K a b p d inside tight x from to =
    (tight x from (omega arith) (λ y e. subst (λ t. x < t) (same y e) to)).1
  where
    same : (y : ℕ) → Some b ≡ Some y → b ≡ y
    same y e = cc
