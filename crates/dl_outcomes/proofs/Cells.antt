-- The cells of a grid after the change: that they are a grid, what they enclose, and how wide they are.
use Rattle.dl_outcomes.proofs.Common.{add-sub_of_le, below_more, ℕ, zero, suc, ◌≡◌, ◌+◌, ◌-◌, ◌*◌, ◌/◌, ◌^◌, ◌<◌, ◌≤◌, inl, inr, min, List, [], ◌∷◌, ◌++◌, length, get_or, arith, refl, sym, ap, ap₂, subst, subst₂, ◌∙◌, sum, div_ceil, cases_lt, pow_pos, get_or_default_zero, Fraction, whole, ◌over◌, ◌≤ℚ◌, ◌<ℚ◌, count_below, sum_to, le_of_eq, le_trans, zero_le, one_pos, over_lt, num_below, to_over, over_one, over_le_over, le_of_lt, all_at_zero, low_at, high_at, low_ends, high_ends, mass_low, spread, IsGrid, AreEnds, HasRoomForNone, AreChangedEnds, size_of, Aggregate, changed, at_least_wider, at_most_wider, cell_at_most_one, loss_proper, changed_values, unit_changed_lows, low_changed, high_changed, Iv, floor_le_ceiling, IsBefore, length-append, get_or_append_left, get_or-eq_default, get_or-append_seam, sum_by-cons, below_first, below_le, below_plus, below_same, low_at_ends, high_at_ends, low_ends_long, low_le_high}
use Rattle.dl_grid.proofs.PlaceSums.{low_within, whole_mass, width_within, whole_spread, width_at}
use Rattle.dl_model.specs.Family.{GridEncloses}
use Rattle.dl_outcomes.proofs.Rounded.{cell_apart, parts_order, lows_fit, widths_sum, spread_within}
use Rattle.dl_outcomes.proofs.Values.{low_is_below, high_is_above, quotient_is_below, units_fit}
use Rattle.dl_outcomes.proofs.Losses.{changed_is_loss}

-- ---- lists as a loop makes them

-- the list of f 0, .., f (n - 1)
pub record AreMade (f : ℕ → ℕ) (n : ℕ) (made : List ℕ) : Type 0 where
  pub long : length made ≡ n
  pub each : (k : ℕ) → k < n → get_or made k 0 ≡ f k

pub none_made : (f : ℕ → ℕ) {made : List ℕ} → made ≡ [] → AreMade f 0 made
none_made f none = record { long = ap length none; each = λ k h. absurd (omega arith) }

pub one_more : {f : ℕ → ℕ} {n v : ℕ} {made more : List ℕ} → AreMade f n made → more ≡ made ++ v ∷ [] → v ≡ f n
    → AreMade f (n + 1) more
one_more {f} {n} {v} {made} {more} are next here = record {
  long = rw next (simp length-append (omega (arith, are.long)));
  each = below_more (λ k. get_or more k 0 ≡ f k) n
      (λ k b. ap (λ t. get_or t k 0) next ∙ get_or_append_left made (v ∷ []) 0 k (omega (arith, are.long)) ∙ are.each k b)
      (ap₂ (λ t n. get_or t n 0) next (sym are.long) ∙ get_or-append_seam made v [] 0 ∙ here);
}

sum_total : (xs : List ℕ) → sum xs ≡ count_below (length xs) (λ k. get_or xs k 0)
unfolding count_below
sum_total [] = refl
sum_total (x ∷ xs) =
    let first = below_first (length xs) (λ k. get_or (x ∷ xs) k 0) in
    omega (arith, sum_by-cons (λ (e : ℕ). e) x xs, sum_total xs)

-- what stands at 0 alone adds up to at most itself
at_zero_sum : (n e : ℕ) → count_below n (all_at_zero e) ≤ e
unfolding count_below all_at_zero
at_zero_sum zero e = omega arith
at_zero_sum (suc zero) e = omega arith
at_zero_sum (suc (suc n)) e = omega (arith, at_zero_sum (suc n) e)

at_zero_plus : (m n y : ℕ) → all_at_zero (m + n) y ≡ all_at_zero m y + all_at_zero n y
unfolding all_at_zero
at_zero_plus m n zero = refl
at_zero_plus m n (suc y) = refl

at_zero_rises : (m n y : ℕ) → m ≤ n → all_at_zero m y ≤ all_at_zero n y
at_zero_rises m n y le = omega (arith, at_zero_plus m (n - m) y, ap (λ n. all_at_zero n y) (add-sub_of_le le))

-- taking off a number that lies between two ends widens the outcome 0 alone
taken_width : (y l h a b : ℕ) → a ≤ b
    → (h - all_at_zero a y) - (l - all_at_zero b y) ≤ (h - l) + all_at_zero (b - a) y
taken_width y l h a b o = omega (arith, at_zero_plus a (b - a) y, ap (λ n. all_at_zero n y) (add-sub_of_le o))

-- the two lists that a loop makes, cell by cell
abbrev pub AreLows : {B : ℕ} → List (Iv B) → Iv B → Fraction → ℕ → List ℕ → Type 0
AreLows {B} cells none p = AreMade (λ k. min (low_changed (2 ^ B) none.lo none.hi p k (low_at cells k)) (2 ^ B))

abbrev pub AreHighs : {B : ℕ} → List (Iv B) → Iv B → Fraction → ℕ → List ℕ → Type 0
AreHighs {B} cells none p = AreMade (λ k. min (high_changed (2 ^ B) none.lo none.hi p k (high_at cells k)) (2 ^ B))

-- ---- one cell in numbers

module _ (S nl nh : ℕ) (p : Fraction) (pos : 0 < S) (order : nl ≤ nh) (below : nh < S) (one : p <ℚ whole 1) where
  pub ends_order : (k l h : ℕ) → l ≤ h → low_changed S nl nh p k l ≤ high_changed S nl nh p k h
  unfolding low_changed high_changed
  ends_order k l h le =
      let part = parts_order (l - all_at_zero nh k) (h - all_at_zero nl k) S (S - nh) (S - nl) (p.den - p.num) p.den
      (omega arith) (omega arith) p.positive (omega (arith, at_zero_rises nl nh k order)) in
      let rounded = floor_le_ceiling (S * p.num) (S * p.num) p.den p.den p.positive (omega arith) (omega arith) in
      omega (arith, at_zero_rises (S * p.num / p.den) (div_ceil (S * p.num) p.den) k rounded)

  pub cell_width : (k l h : ℕ) → l ≤ h
      → (min (high_changed S nl nh p k h) S - min (low_changed S nl nh p k l) S) * ((S - nh) * (S - nl))
      ≤ S * ((S - nl) * ((h - all_at_zero nl k) - (l - all_at_zero nh k)) + (nh - nl) * (l - all_at_zero nh k))
      + (4 + all_at_zero 1 k) * ((S - nh) * (S - nl))
  unfolding low_changed high_changed
  cell_width k l h le =
      let x = l - all_at_zero nh k in
      let z = h - all_at_zero nl k in
      let all : x + (z - x) ≡ z = omega (arith, at_zero_rises nl nh k order) in
      let rest : (S - nh) + (nh - nl) ≡ S - nl = omega arith in
      -- p itself is rounded at the outcome 0 alone
      let apart : all_at_zero (div_ceil (S * p.num) p.den) k ≤ all_at_zero (S * p.num / p.den) k + all_at_zero 1 k =
      rw (← at_zero_plus (S * p.num / p.den) 1 k) (at_zero_rises _ (S * p.num / p.den + 1) k (omega arith)) in
      rw (all, rest) at (cell_apart S (S - nh) (nh - nl) x (z - x) (p.den - p.num) p.den
      (all_at_zero (S * p.num / p.den) k) (all_at_zero (div_ceil (S * p.num) p.den) k) (all_at_zero 1 k) (omega arith)
      p.positive (omega arith) apart)

-- a probability of no claim of at most 17 / 18 is below 1
below_one : (B n : ℕ) → 18 * n ≤ 17 * 2 ^ B → n < 2 ^ B
below_one B n share = omega (arith, pow_pos B)

-- ---- the two lists

-- what stands at 0 taken off what adds up
left_sum : {B : ℕ} (cells : List (Iv B)) (e : ℕ) → 1 ≤ length cells
    → count_below (length cells) (λ y. low_at cells y - all_at_zero e y)
    ≡ mass_low cells - low_at cells 0 + (low_at cells 0 - e)
unfolding all_at_zero
left_sum [] e some = absurd (omega arith)
left_sum (c ∷ cs) e some = omega (
  arith,
  below_first (length cs) (λ y. low_at (c ∷ cs) y - all_at_zero e y),
  below_first (length cs) (low_at (c ∷ cs)),
  below_same (length cs) (λ i. low_at (c ∷ cs) (suc i) - 0) (λ i. low_at (c ∷ cs) (suc i)) (λ i b. omega arith),
  whole_mass (length (c ∷ cs)) (c ∷ cs) refl,
)

module _ {B : ℕ} (cells : List (Iv B)) (none : Iv B) (p : Fraction) (lows highs : List ℕ) (K : ℕ) (grid : IsGrid cells)
    (one : p <ℚ whole 1) (share : 18 * none.hi ≤ 17 * 2 ^ B) (room : HasRoomForNone cells none)
    (all : K ≡ length cells)
    (made_low : AreLows cells none p K lows) (made_high : AreHighs cells none p K highs) where
  under : none.hi < 2 ^ B
  under = below_one B none.hi share

  -- what the low ends leave, and what they are after
  lows_left : count_below (length cells) (λ y. low_at cells y - all_at_zero none.hi y) ≤ 2 ^ B - none.lo
  lows_left = omega (arith, left_sum cells none.hi grid.some)

  lows_after : count_below (length cells) (λ y. low_changed (2 ^ B) none.lo none.hi p y (low_at cells y)) ≤ 2 ^ B
  unfolding low_changed
  lows_after =
      lows_fit (length cells) (2 ^ B) (2 ^ B - none.lo) p.num p.den (λ y. low_at cells y - all_at_zero none.hi y)
      (omega (arith, under)) p.positive (num_below p one) lows_left

  pub changed_ends : AreEnds B lows highs
  changed_ends = record {
    size = rw (made_low.long, all) (size_of cells grid);
    paired = omega (arith, made_low.long, made_high.long);
    ordered = λ x. elim (cases_lt x (length cells)) [
      | inl inside ↦
          let order = ends_order (2 ^ B) none.lo none.hi p (pow_pos B) none.ordered under one x _ _ (low_le_high cells x) in
          omega (arith, made_low.each x (omega arith), made_high.each x (omega arith))
      | inr past ↦ omega (arith, get_or-eq_default lows 0 {n = x} (omega (arith, made_low.long)))
    ];
    small = λ x d inside. omega (arith, get_or_default_zero highs x d inside, made_high.each x (omega (arith, made_high.long)));
    mass =
        let same = ap (λ n. count_below n (λ i. get_or lows i 0)) (made_low.long ∙ all) in
        let less = below_le (length cells) (λ i. get_or lows i 0)
        (λ y. low_changed (2 ^ B) none.lo none.hi p y (low_at cells y)) (λ i b. omega (arith, made_low.each i (omega arith))) in
        omega (arith, sum_total lows, lows_after);
  }

  pub made_ends : (g : List (Iv B)) → low_ends g ≡ lows → high_ends g ≡ highs → AreChangedEnds p cells none g
  made_ends g low high = record {
    low = λ y inside. sym (low_at_ends g y) ∙ ap (λ t. get_or t y 0) low ∙ made_low.each y (omega arith);
    high = λ y inside. sym (high_at_ends g y) ∙ ap (λ t. get_or t y 0) high ∙ made_high.each y (omega arith);
  }

  pub changed_spread_within : (g : List (Iv B)) → low_ends g ≡ lows → high_ends g ≡ highs
      → spread g ≤ 18 * (spread cells + 2 * (none.hi - none.lo)) + 4 * length cells + 2
  changed_spread_within g low high =
      let S : ℕ = 2 ^ B in
      let n : ℕ = length cells in
      let R : ℕ = S - none.hi in
      let Z : ℕ = none.hi - none.lo in
      let rest : S - none.lo ≡ R + Z = omega (arith, under) in
      let many : length g ≡ n = omega (arith, low_ends_long g, ap length low) in
      let x : ℕ → ℕ = λ y. low_at cells y - all_at_zero none.hi y in
      let d : ℕ → ℕ = λ y. (high_at cells y - all_at_zero none.lo y) - x y in
      let ends = made_ends g low high in
      let sum = widths_sum n S ((S - none.hi) * (S - none.lo)) (S - none.lo) Z (width_at g) d x (all_at_zero 1)
      (λ y b. rw (ends.high y b, ends.low y b) (cell_width S none.lo none.hi p (pow_pos B) none.ordered under one y
      (low_at cells y) (high_at cells y) (low_le_high cells y))) in
      let wide = below_le n d (λ y. width_at cells y + all_at_zero Z y)
      (λ y b. taken_width y (low_at cells y) (high_at cells y) none.lo none.hi none.ordered) in
      let split = below_plus n (width_at cells) (all_at_zero Z) in
      omega (
        arith,
        whole_spread n g many,
        spread_within S R Z (spread cells) n (count_below n (width_at g)) (count_below n d) (count_below n x)
            (count_below n (all_at_zero 1)) (omega (arith, under)) (omega arith)
            (subst (λ t. count_below n (width_at g) * (R * t)
            ≤ S * (t * count_below n d + Z * count_below n x) + (4 * n + count_below n (all_at_zero 1)) * (R * t))
            rest sum)
            (omega (arith, width_within n cells, at_zero_sum n Z))
            (omega (arith, lows_left))
            (omega (arith, at_zero_sum n 1)),
      )

-- ---- what they enclose

module _ {B : ℕ} (cells : List (Iv B)) (none : Iv B) (p : Fraction) (u : Aggregate) (grid : IsGrid cells)
    (share : 18 * none.hi ≤ 17 * 2 ^ B) (before : IsBefore u cells none) where
  below_all : none.hi < 2 ^ B
  below_all = below_one B none.hi share

  none_order : none.lo over 2 ^ B ≤ℚ none.hi over 2 ^ B
  none_order = over_le_over _ _ _ (pow_pos B) none.ordered

  none_below : (n : ℕ) → n < 2 ^ B → n over 2 ^ B <ℚ whole 1
  none_below n h = over_lt n (2 ^ B) 1 1 (pow_pos B) one_pos (omega arith)

  pub room_for_none : HasRoomForNone cells none
  room_for_none =
      let S : ℕ = 2 ^ B in
      let k : ℕ = length cells - 1 in
      let all : length cells ≡ suc k = omega arith in
      let add_up : sum_to k (λ y. low_at cells y over S) ≤ℚ whole 1 =
      subst₂ (λ s t. s ≤ℚ t) (sym (to_over k S (low_at cells) (pow_pos B))) (over_one S (pow_pos B))
      (over_le_over _ _ _ (pow_pos B) (omega (arith, low_within (suc k) cells))) in
      let left : count_below (length cells) (λ y. low_at cells y - all_at_zero none.hi y) ≤ S - none.lo =
      rw all (units_fit k (S - none.lo) (λ y. low_at cells y - all_at_zero none.hi y) _ (omega (arith, below_all))
      (λ y b. quotient_is_below S none.lo none.hi p (pow_pos B) none.ordered below_all y (low_at cells y))
      (unit_changed_lows (whole 0) u before.declared (none.lo over S) (none.hi over S) k
      (λ y. low_at cells y over S) (zero_le (whole 1)) (λ y b. (before.grid y (omega arith)).0)
      before.none.0 none_order (none_below none.lo (omega (arith, below_all))) add_up)) in
      omega (arith, left_sum cells none.hi grid.some, below_all)

  pub changed_encloses : p <ℚ whole 1 → (g : List (Iv B)) → length g ≡ length cells → AreChangedEnds p cells none g
      → GridEncloses g (changed p u).family
  changed_encloses one g many ends y inside =
      let here : y < length cells = omega arith in
      let F = (changed p u).family in
      let S : ℕ = 2 ^ B in
      let held = changed_values p u before.declared (low_at cells y over S) (high_at cells y over S) (none.lo over S)
      (none.hi over S) y (before.grid y here) before.none none_order (none_below none.hi below_all) in
      let h = high_changed S none.lo none.hi p y (high_at cells y) in
      let low = ends.low y here in
      let high = ends.high y here in (
        at_least_wider (F.cells y) F.all _ _ held.0 (le_trans _ _ _ (over_le_over _ _ S (pow_pos B) (omega (arith, low)))
            (low_is_below S none.lo none.hi p (pow_pos B) none.ordered below_all y (low_at cells y))),
        elim (cases_lt S h) [
          | inl far ↦ at_most_wider (F.cells y) F.all (whole 1) _
              (cell_at_most_one F (loss_proper (changed p u) (changed_is_loss p u before.declared.unit
              (le_of_lt _ _ one))) y)
              (le_of_eq _ _ (sym (over_one S (pow_pos B)) ∙ ap (λ t. t over S) (omega (arith, high))))
          | inr near ↦ at_most_wider (F.cells y) F.all _ _ held.1
              (le_trans _ _ _ (high_is_above S none.lo none.hi p (pow_pos B) none.ordered below_all y (high_at cells y))
              (over_le_over _ _ S (pow_pos B) (omega (arith, high))))
        ],
      )
