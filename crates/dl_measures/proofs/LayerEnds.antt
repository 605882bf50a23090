-- The means of layers, from the ends that a grid gives.
use Rattle.dl_measures.proofs.Common.{ℕ, suc, ◌≡◌, inl, inr, ◌+◌, ◌-◌, ◌*◌, ◌^◌, ◌<◌, ◌≤◌, min, List, length, arith, sym, ap, subst, ◌∙◌, Option, Some, None, mul-le-mul_right, fun_ext, pow_pos, cases_lt, whole, ◌over◌, ◌+ℚ◌, ◌*ℚ◌, ◌≤ℚ◌, over_le, over_same, one_pos, zero_le, Iv, low_at, high_at, spread, IsGrid, cells_fit, AtLeast, AtMost, Holds, count_below, Loss, One, Layer, score, partial_sums, total, GridEncloses, AreDeclared, at_most_wider, outcomes_rise, over_plus, below_bound, are_units, quantity_bounded, zero_times, plus, Mean, mean_split, excess_ends, layer_width, at_most_minus, edge_of, layer_most, below_le}
use Rattle.dl_measures.proofs.CellEnds.{layer_ends}
use Rattle.dl_measures.proofs.Widths.{rests}
use Rattle.dl_measures.proofs.Sums.{apart, low_high, low_most}
use Rattle.dl_measures.proofs.Reached.{more}

-- the ends of the layer of a limit, in units of 1/S
abbrev pub low_units : {B : ℕ} → List (Iv B) → ℕ → ℕ → ℕ
low_units {B} cells limit attachment = count_below limit
    (λ i. 2 ^ B - min (2 ^ B) (count_below (suc (attachment + i)) (high_at cells)))

abbrev pub high_units : {B : ℕ} → List (Iv B) → ℕ → ℕ → ℕ
high_units {B} cells limit attachment = count_below limit
    (λ i. 2 ^ B - count_below (suc (attachment + i)) (low_at cells))

pub with_limit : {B : ℕ} (cells : List (Iv B)) (us : List Loss) (limit attachment : ℕ) → IsGrid cells
    → AreDeclared us → GridEncloses cells (total us)
    → attachment + limit ≤ length cells
    → Holds (partial_sums us (Layer (Some limit) attachment)) (partial_sums us One)
    (low_units cells limit attachment over 2 ^ B) (high_units cells limit attachment over 2 ^ B)
with_limit {B} cells us limit attachment grid d e inside =
    let bound = quantity_bounded us One d tt in
    layer_ends us (2 ^ B) (length cells) (low_at cells) (high_at cells) bound.0 (are_units us d) (pow_pos B) e bound.1
    (low_most cells (length cells) grid) limit attachment inside

pub limit_width : {B : ℕ} (cells : List (Iv B)) (limit attachment : ℕ)
    → high_units cells limit attachment - low_units cells limit attachment ≤ limit * spread cells
limit_width {B} cells limit attachment =
    let wide = rests (2 ^ B) (spread cells) limit (λ i. count_below (suc (attachment + i)) (low_at cells)) _
    (λ i h. apart cells (suc (attachment + i))) in omega arith

-- what a layer below leaves of the mean of the total
excess_low : (us : List Loss) (attachment S l h m n : ℕ) → 0 < S → AreDeclared us
    → Holds (partial_sums us Mean) (partial_sums us One) (m over S) (n over S)
    → Holds (partial_sums us (Layer (Some attachment) 0)) (partial_sums us One) (l over S) (h over S)
    → AtLeast (partial_sums us (Layer None attachment)) (partial_sums us One) ((m - h) over S)
excess_low us attachment S l h m n s d mean layer = elim (cases_lt m h) [
  | inl less ↦ λ N u b. subst (λ t. t ≤ℚ u)
      (sym (ap (λ t. t *ℚ partial_sums us One N) (none (m - h) (omega arith)) ∙ zero_times (partial_sums us One N)))
      (zero_le u)
  | inr more ↦ (excess_ends us attachment (l over S) (h over S) (m over S) (n over S) ((m - h) over S) (n over S)
      (quantity_bounded us One d tt).0 (are_units us d) (quantity_bounded us One d tt).1 mean layer
      (subst (λ t. t ≤ℚ m over S) (sym (over_plus (m - h) h S s))
      (over_le _ _ _ _ s s (mul-le-mul_right S (omega arith))))
      (subst (λ t. n over S ≤ℚ t) (sym (over_plus n l S s)) (over_le _ _ _ _ s s (mul-le-mul_right S (omega arith))))).0
]
  where
    none : (k : ℕ) → k ≡ 0 → k over S ≡ whole 0
    none k e = over_same k S 0 1 s one_pos (omega (arith, ap (λ t. t * 1) e))

excess_high : (us : List Loss) (attachment S l h m n : ℕ) → 0 < S → AreDeclared us
    → Holds (partial_sums us Mean) (partial_sums us One) (m over S) (n over S)
    → Holds (partial_sums us (Layer (Some attachment) 0)) (partial_sums us One) (l over S) (h over S)
    → AtMost (partial_sums us (Layer None attachment)) (partial_sums us One) ((n - l) over S)
excess_high us attachment S l h m n s d mean layer =
    let w = are_units us d in
    let parts : partial_sums us Mean ≡ plus (partial_sums us (Layer None attachment))
    (partial_sums us (Layer (Some attachment) 0)) = fun_ext (λ N. sym (mean_split us attachment N)) in
    let enough : n over S ≤ℚ (n - l) over S +ℚ l over S = subst (λ t. n over S ≤ℚ t) (sym (over_plus (n - l) l S s))
    (over_le _ _ _ _ s s (mul-le-mul_right S (omega arith))) in
    at_most_minus (partial_sums us (Layer None attachment)) (partial_sums us (Layer (Some attachment) 0))
    (partial_sums us One) ((n - l) over S) (l over S)
    (outcomes_rise us w (score (Layer None attachment))) (outcomes_rise us w (score (Layer (Some attachment) 0)))
    (subst (λ t. AtMost t (partial_sums us One) ((n - l) over S +ℚ l over S)) parts
    (at_most_wider (partial_sums us Mean) (partial_sums us One) (n over S)
    ((n - l) over S +ℚ l over S) mean.1 enough))
    layer.0

pub no_limit : {B : ℕ} (cells : List (Iv B)) (us : List Loss) (attachment m n : ℕ) → IsGrid cells → AreDeclared us
    → GridEncloses cells (total us)
    → attachment ≤ length cells → Holds (partial_sums us Mean) (partial_sums us One) (m over 2 ^ B) (n over 2 ^ B)
    → Holds (partial_sums us (Layer None attachment)) (partial_sums us One)
    ((m - high_units cells attachment 0) over 2 ^ B) ((n - low_units cells attachment 0) over 2 ^ B)
no_limit {B} cells us attachment m n grid d e inside mean =
    let layer = with_limit cells us attachment 0 grid d e (omega arith) in (
      excess_low us attachment (2 ^ B) (low_units cells attachment 0) (high_units cells attachment 0) m n
          (pow_pos B) d mean layer,
      excess_high us attachment (2 ^ B) (low_units cells attachment 0) (high_units cells attachment 0) m n
          (pow_pos B) d mean layer,
    )

pub no_limit_width : {B : ℕ} (cells : List (Iv B)) (attachment m n : ℕ) → m ≤ n
    → (n - low_units cells attachment 0) - (m - high_units cells attachment 0) ≤ (n - m) + attachment * spread cells
no_limit_width cells attachment m n h = omega (arith, limit_width cells attachment 0)

high_units_most : {B : ℕ} (cells : List (Iv B)) (limit attachment : ℕ)
    → high_units cells limit attachment ≤ limit * 2 ^ B
high_units_most {B} cells limit attachment = below_bound limit (2 ^ B)
    (λ i. 2 ^ B - count_below (suc (attachment + i)) (low_at cells)) (λ i h. omega arith)

-- ---- what a call answers, from the cells that it has seen

module _ {B : ℕ} (cells : List (Iv B)) (limit : Option ℕ) (attachment k lo hi : ℕ)
    (low : lo ≡ low_units cells k attachment) (high : hi ≡ high_units cells k attachment) (is : limit ≡ Some k) where
  pub some_holds : (us : List Loss) → IsGrid cells → AreDeclared us → GridEncloses cells (total us)
      → edge_of limit attachment ≤ length cells
      → Holds (partial_sums us (Layer limit attachment)) (partial_sums us One) (lo over 2 ^ B) (hi over 2 ^ B)
  some_holds us grid d e inside = rw (is, low, high) (with_limit cells us k attachment grid d e (rw is at inside))

  pub some_width : (mean : ℕ) → hi - lo ≤ layer_width limit attachment mean (spread cells)
  some_width mean = rw is (omega (arith, limit_width cells k attachment))

  pub some_most : (mean : ℕ) → hi ≤ layer_most limit (2 ^ B) mean
  some_most mean = rw is (omega (arith, high_units_most cells k attachment))

module _ {B : ℕ} (cells : List (Iv B)) (limit : Option ℕ) (attachment lo hi l h m n : ℕ)
    (low : l ≡ low_units cells attachment 0) (high : h ≡ high_units cells attachment 0) (left_low : lo ≡ m - h)
    (left_high : hi ≡ n - l) (is : limit ≡ None) where
  pub none_holds : (us : List Loss) → IsGrid cells → AreDeclared us → GridEncloses cells (total us)
      → edge_of limit attachment ≤ length cells
      → (limit ≡ None → Holds (partial_sums us Mean) (partial_sums us One) (m over 2 ^ B) (n over 2 ^ B))
      → Holds (partial_sums us (Layer limit attachment)) (partial_sums us One) (lo over 2 ^ B) (hi over 2 ^ B)
  none_holds us grid d e inside mean =
      rw (is, left_low, left_high, low, high) (no_limit cells us attachment m n grid d e (rw is at inside) (mean is))

  pub none_width : m ≤ n → hi - lo ≤ layer_width limit attachment (n - m) (spread cells)
  none_width ordered =
      rw is (omega (arith, no_limit_width cells attachment m n ordered))

-- ---- the interval of a layer with a limit

pub units_order : {B : ℕ} (cells : List (Iv B)) (limit attachment : ℕ)
    → low_units cells limit attachment ≤ high_units cells limit attachment
units_order {B} cells limit attachment = below_le limit
    (λ i. 2 ^ B - min (2 ^ B) (count_below (suc (attachment + i)) (high_at cells)))
    (λ i. 2 ^ B - count_below (suc (attachment + i)) (low_at cells))
    (λ i h. omega (arith, low_high cells (suc (attachment + i))))

pub units_fit : {B : ℕ} (cells : List (Iv B)) (limit attachment : ℕ) → IsGrid cells → limit ≤ length cells
    → high_units cells limit attachment ≤ 2 ^ 127
units_fit cells limit attachment grid inside =
    omega (arith, high_units_most cells limit attachment, cells_fit cells limit grid inside)
