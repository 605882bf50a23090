-- The list of cells that the recursion makes is a grid, follows the declared recursion, and encloses the compound sum.
use Rattle.dl_panjer.proofs.Common.{ℕ, suc, ◌≡◌, ◌+◌, ◌-◌, ◌*◌, ◌^◌, ◌<◌, ◌≤◌, true, false, List, length, arith, sym, ap, ◌∙◌, All, pow_pos, Fraction, ◌over◌, ◌+ℚ◌, ◌*ℚ◌, ◌/ℚ◌, ◌≤ℚ◌, whole, sum_to, over_zero, over_mul, over_le, one_pos, le_of_eq, le_trans, le_whole, Iv, Rate, low_at, high_at, spread, IsGrid, IsGridSize, up, count_below, Holds, poisson, gamma_of, IsPanjer, compound, GridEncloses, IsWithinOne, poisson_class, within_one, Item, Sev, probability_of, weight_at, weight_sum, Follows, FollowsOutward, low_next, high_next, severity_total, zero_weight, over_self, below_first, width_at, high_is, whole_mass, whole_spread, IsWeighted, IsPoissonBase, IsGeometricBase, amounts_positive, le_over, up_ceiling}
use Rattle.dl_panjer.proofs.Recursions.{poisson_follows, geometric_follows, one_and, rate_of}
use Rattle.dl_panjer.proofs.Base.{base_encloses}
use Rattle.dl_panjer.proofs.Outward.{poisson_outward, geometric_outward}
use Rattle.dl_panjer.proofs.Compounds.{geometric_start, geometric_class}
use Rattle.dl_panjer.proofs.Mass.{low_mass}
use Rattle.dl_panjer.proofs.Spreads.{AreWidths, widths, all_widths, half_spread, ratio_spread}

-- the list follows the recursion by these steps, over items and their total
pub record IsMade {B : ℕ} (low_step high_step : (ℕ → ℕ) → ℕ → ℕ) (items : List Item) (total : ℕ) (cells : List (Iv B))
    (K : ℕ) : Type 0 where
  pub length_is : length cells ≡ K
  pub size : IsGridSize B K
  pub small : All (λ cell. cell.hi ≤ 2 ^ B) cells
  pub follows : Follows low_step high_step (low_at cells) (high_at cells) K
  pub total_above : 0 < total
  pub sum : weight_sum items ≡ total
  pub no_zero : weight_at items 0 ≡ 0
  pub within : IsWithinOne (λ j. weight_at items j over total)

module _ {B : ℕ} {low_step high_step : (ℕ → ℕ) → ℕ → ℕ} {items : List Item} {T : ℕ} {cells : List (Iv B)} {K : ℕ}
    (made : IsMade low_step high_step items T cells K) where
  -- the same, said of the list's own length
  pub own : Follows low_step high_step (low_at cells) (high_at cells) (length cells)
  own = rw made.length_is made.follows

  none : weight_at items 0 over T ≡ whole 0
  none = ap (λ n. n over T) made.no_zero ∙ over_zero T made.total_above

  module _ (x y : Fraction) (w : ℕ → Fraction)
      (F : FollowsOutward (2 ^ B) (length cells) x y (λ j. weight_at items j over T) (low_at cells) (high_at cells))
      (P : IsPanjer x y w)
      (start : Holds (λ N. whole 1) (λ N. sum_to N w) (low_at cells 0 over 2 ^ B) (high_at cells 0 over 2 ^ B)) where
    pub made_grid : IsGrid cells
    made_grid =
        let n : ℕ = K - 1 in
        let e : suc n ≡ length cells = omega (arith, made.size.some, made.length_is) in
        let mass = low_mass (2 ^ B) n x y (λ j. weight_at items j over T) w (low_at cells) (high_at cells)
        (rw e F) none P (pow_pos B) made.within start.0 in
        record {
          some = rw made.length_is made.size.some;
          few = rw made.length_is made.size.few;
          small = made.small;
          mass = omega (arith, mass, whole_mass (suc n) cells (sym e));
        }

    pub made_encloses : GridEncloses cells (compound w (λ j. weight_at items j over T))
    made_encloses = base_encloses (2 ^ B) (length cells) x y (λ j. weight_at items j over T) (low_at cells)
        (high_at cells) F w none P (pow_pos B) made.within start.1 start.0

  widths_of : (num den c : ℕ) → AreWidths items T num den c K (width_at cells) → (n : ℕ) → suc n ≡ K
      → (den * count_below n (λ s. width_at cells (suc s)) ≤ num * spread cells + c * n * den) ×
      (spread cells ≡ width_at cells 0 + count_below n (λ s. width_at cells (suc s)))
  widths_of num den c step n e =
      let whole_is : spread cells ≡ count_below (suc n) (width_at cells) =
      whole_spread (suc n) cells (omega (arith, made.length_is, e)) in (
        rw whole_is (all_widths items T num den c K (width_at cells) step made.total_above n e made.sum),
        whole_is ∙ below_first n (width_at cells),
      )

  -- where the rate num over den is v / (1 + v)
  pub ratio_widths : (v : Fraction) (num den c f : ℕ) → 0 < den → num over den ≡ v /ℚ (whole 1 +ℚ v)
      → AreWidths items T num den c K (width_at cells) → high_at cells 0 ≤ low_at cells 0 + f
      → spread cells ≤ up (whole (c * K + f) *ℚ (whole 1 +ℚ v))
  ratio_widths v num den c f pos is step near =
      let n : ℕ = K - 1 in
      let e : suc n ≡ K = omega (arith, made.size.some) in
      let p : ℕ = v.num in
      let d : ℕ = v.den in
      let both : 0 < p + d = omega (arith, v.positive) in
      let same : num over den ≡ p over (p + d) =
      is ∙ sym (rate_of p d v.positive ∙ ap (λ t. t /ℚ (whole 1 +ℚ t)) (over_self v)) in
      let least = le_over num den p (p + d) pos both (le_of_eq _ _ same) in
      let most = le_over p (p + d) num den both pos (le_of_eq _ _ (sym same)) in
      let w = widths_of num den c step n e in
      let all = ratio_spread c f n num den p d (width_at cells 0) (count_below n (λ s. width_at cells (suc s)))
      (spread cells) pos (omega (arith, least, most)) w.1 w.0 (omega (arith, near)) in
      let last : n + 1 ≡ K = omega (arith, e) in
      let product : whole (c * K + f) *ℚ (whole 1 +ℚ v) ≡ ((c * K + f) * (p + d)) over (1 * d) =
      ap (λ t. whole (c * K + f) *ℚ t) (ap (λ t. whole 1 +ℚ t) (sym (over_self v)) ∙ one_and p d v.positive)
      ∙ over_mul (c * K + f) 1 (p + d) d one_pos v.positive in
      let below : whole (spread cells) ≤ℚ whole (c * K + f) *ℚ (whole 1 +ℚ v) =
      rw product (over_le (spread cells) 1 ((c * K + f) * (p + d)) (1 * d) one_pos (omega (arith, v.positive))
      (omega (arith, rw last at all))) in
      le_whole _ _ (le_trans _ _ _ below (up_ceiling (whole (c * K + f) *ℚ (whole 1 +ℚ v))).above)

-- ---- Poisson

module _ {B : ℕ} {items : List Item} {T : ℕ} (r : Rate) (v : Fraction) {cells : List (Iv B)} {K : ℕ}
    (made : IsMade (low_next true items T r) (high_next (2 ^ B) true items T r) items T cells K)
    (is : r.num over r.den ≡ v)
    (start : Holds (λ N. whole 1) (λ N. sum_to N (poisson v)) (low_at cells 0 over 2 ^ B)
    (high_at cells 0 over 2 ^ B)) where
  outward_p : FollowsOutward (2 ^ B) (length cells) (whole 0) v (λ j. weight_at items j over T) (low_at cells) (high_at cells)
  outward_p = poisson_outward items T v made.total_above cells (poisson_follows items T r v cells is (own made))

  pub poisson_grid : IsGrid cells
  poisson_grid = made_grid made (whole 0) v (poisson v) outward_p (poisson_class v) start

  pub poisson_encloses : GridEncloses cells (compound (poisson v) (λ j. weight_at items j over T))
  poisson_encloses = made_encloses made (whole 0) v (poisson v) outward_p (poisson_class v) start

pub poisson_widths : {B : ℕ} {items : List Item} {T : ℕ} (r : Rate) {cells : List (Iv B)} {K : ℕ}
    → IsMade (low_next true items T r) (high_next (2 ^ B) true items T r) items T cells K → r.num + r.num ≤ r.den
    → high_at cells 0 ≤ low_at cells 0 + 64 → spread cells ≤ 8 * K + 128
poisson_widths {B} {items} {T} r {cells} {K} made half near =
    let n : ℕ = K - 1 in
    let e : suc n ≡ K = omega (arith, made.size.some) in
    let w = widths_of made r.num r.den 4 (widths true items (2 ^ B) T r (low_at cells) (high_at cells)
    (width_at cells) K made.follows made.total_above (high_is cells)) n e in
    let all = half_spread n r.num r.den (width_at cells 0) (count_below n (λ s. width_at cells (suc s)))
    (spread cells) r.positive half w.1 w.0 (omega (arith, near)) in
    omega (arith, all, e)

-- ---- geometric

module _ {B : ℕ} {items : List Item} {T : ℕ} (r : Rate) (v : Fraction) {cells : List (Iv B)} {K : ℕ}
    (made : IsMade (low_next false items T r) (high_next (2 ^ B) false items T r) items T cells K)
    (is : r.num over r.den ≡ v /ℚ (whole 1 +ℚ v)) where
  outward_g : FollowsOutward (2 ^ B) (length cells) (v /ℚ (whole 1 +ℚ v)) (v /ℚ (whole 1 +ℚ v))
      (λ j. weight_at items j over T) (low_at cells) (high_at cells)
  outward_g =
      geometric_outward items T v made.total_above cells (geometric_follows items T r (v /ℚ (whole 1 +ℚ v)) cells is
      (own made))

  module _ (low : low_at cells 0 over 2 ^ B ≤ℚ whole 1 /ℚ (whole 1 +ℚ v))
      (high : whole 1 /ℚ (whole 1 +ℚ v) ≤ℚ high_at cells 0 over 2 ^ B) where
    pub geometric_grid : IsGrid cells
    geometric_grid = made_grid made (v /ℚ (whole 1 +ℚ v)) (v /ℚ (whole 1 +ℚ v)) (gamma_of (whole 1) v) outward_g
        (geometric_class v) (geometric_start v (low_at cells 0 over 2 ^ B) (high_at cells 0 over 2 ^ B) low high)

    pub geometric_encloses : GridEncloses cells (compound (gamma_of (whole 1) v) (λ j. weight_at items j over T))
    geometric_encloses = made_encloses made (v /ℚ (whole 1 +ℚ v)) (v /ℚ (whole 1 +ℚ v)) (gamma_of (whole 1) v) outward_g
        (geometric_class v) (geometric_start v (low_at cells 0 over 2 ^ B) (high_at cells 0 over 2 ^ B) low high)

  pub geometric_widths : high_at cells 0 ≤ low_at cells 0 + 1 → spread cells ≤ up (whole (4 * K + 1) *ℚ (whole 1 +ℚ v))
  geometric_widths near = ratio_widths made v r.num r.den 4 1 r.positive is
      (widths false items (2 ^ B) T r (low_at cells) (high_at cells) (width_at cells) K made.follows made.total_above
      (high_is cells)) near

-- ---- from what the recursion's loop gives

pub made_of : {B : ℕ} (low_step high_step : List Item → (ℕ → ℕ) → ℕ → ℕ) (sev : Sev) {items : List Item}
    (cells : List (Iv B)) {K : ℕ}
    → items ≡ sev.items → IsGridSize B K → length cells ≡ K
    → All (λ cell. cell.hi ≤ 2 ^ B) cells → Follows (low_step items) (high_step items) (low_at cells) (high_at cells) K
    → probability_of sev 0 ≡ whole 0 → IsMade (low_step sev.items) (high_step sev.items) sev.items sev.total cells K
made_of low_step high_step sev cells same size length_is small follows none =
    record {
      length_is = length_is;
      size = size;
      small = small;
      follows = rw (← same) follows;
      total_above = severity_total sev;
      sum = sev.weighted.sum;
      no_zero = zero_weight sev none;
      within = within_one sev;
    }

pub poisson_is_base : {B : ℕ} (sev : Sev) (r : Rate) (v : Fraction) (cells : List (Iv B)) {K : ℕ}
    → IsMade (low_next true sev.items sev.total r) (high_next (2 ^ B) true sev.items sev.total r) sev.items sev.total cells K
    → r.num over r.den ≡ v → IsPoissonBase sev v cells
poisson_is_base sev r v cells made is = poisson_follows sev.items sev.total r v cells is (own made)

pub geometric_is_base : {B : ℕ} (sev : Sev) (r : Rate) (v : Fraction) (cells : List (Iv B)) {K : ℕ}
    → IsMade (low_next false sev.items sev.total r) (high_next (2 ^ B) false sev.items sev.total r) sev.items sev.total
    cells K
    → r.num over r.den ≡ v /ℚ (whole 1 +ℚ v) → IsGeometricBase sev v cells
geometric_is_base sev r v cells made is =
    geometric_follows sev.items sev.total r (v /ℚ (whole 1 +ℚ v)) cells is (own made)

-- the items of a severity without amount 0, as the loop asks for them
pub items_positive : (sev : Sev) (items : List Item) → items ≡ sev.items → probability_of sev 0 ≡ whole 0
    → All (λ item. 0 < item.amount) items
items_positive sev items same none =
    rw same (amounts_positive sev none)

pub items_weighted : (sev : Sev) (items : List Item) → items ≡ sev.items → IsWeighted items sev.total
items_weighted sev items same = rw same sev.weighted
