-- The probability of no claim: claims of amount 1 alone, on one cell.
use Rattle.dl_unit.proofs.Common.{ℕ, zero, ◌≡◌, ◌-◌, ◌^◌, ◌<◌, ◌≤◌, List, [], ◌∷◌, length, arith, inl, inr, refl, ap, ap₂, subst, ◌∙◌, fun_ext, Fraction, whole, ◌over◌, ◌*ℚ◌, ◌/ℚ◌, ◌≤ℚ◌, le_of_eq, le_trans, Iv, low_at, high_at, spread, count_below, Item, Sev, probability_of, thinned_mean, weight_at, cell, compound_of, GridEncloses, IsPlanScale, most_cells_at, most_amount_at, long_bits, ◌-ℚ◌, times_one, whole_spread, expected_count, IsClaimCount, HasPartsOf48Bits, claims_alone, IsNewZero, IsValidUnit, at_zero, power, count_weights, claims_budget, gamma_budget, none_budget, ⊤, leb_tells, All-cons, All-nil, below_one, over_pos, div_le_both, lt_of_lt_of_le, one_pos, whole_pos, over_div, over_le, over_self, num_pos, whole_le, sum_to, IsShape, IsThinnedTo, Fixed, Table, Bernoulli, Binomial, Poisson, Gamma, count_budget, where_none, none_beta, IsGridSize, Freq, Series, Holds, sub_zero, cell_stays}

-- the items of amount 1 alone
abbrev pub one_item : List Item
one_item = record { amount = 1; weight = 1 } ∷ []

pub one_cell : (B : ℕ) → IsPlanScale B → IsGridSize B 1
unfolding most_cells_at
one_cell B scale = record {
  scale_above = omega (arith, scale.least);
  scale_below = scale.most;
  some = omega arith;
  few = elim (leb_tells B long_bits) [ inl short ↦ rw short.0 (omega arith) | inr long ↦ rw long.0 (omega arith) ];
}

-- a gamma count of a shape of 1 or more, or another count
abbrev pub IsOne : Freq → Type 0
IsOne (Gamma shape mean) = shape.den ≤ shape.num
IsOne freq = ⊤

pub other_one : (freq : Freq) → ((shape mean : Fraction) → freq ≡ Gamma shape mean → ⊥) → IsOne freq
other_one (Fixed m) none = tt
other_one (Table counts total) none = tt
other_one (Bernoulli q) none = tt
other_one (Binomial trials q) none = tt
other_one (Poisson mean) none = tt
other_one (Gamma shape mean) none = absurd (none shape mean refl)

-- its mean over its shape is at most its mean
one_beta : (r v : Fraction) → r.den ≤ r.num → v ≤ℚ whole 4096 → v /ℚ r ≤ℚ whole 32768
one_beta r v least within =
    let one : whole 1 ≤ℚ r = subst (λ x. whole 1 ≤ℚ x) (over_self r)
    (over_le 1 1 r.num r.den one_pos r.positive (omega (arith, least))) in
    le_trans _ _ _ (div_le_both v (whole 4096) r (whole 1) (whole_pos 1 one_pos) within one)
    (le_trans _ _ _ (le_of_eq _ _ (over_div 4096 1 1 1 one_pos one_pos one_pos)) (whole_le 4096 32768 (omega arith)))

one_thinned : (freq : Freq) (p : Fraction) → IsClaimCount freq → IsNewZero freq p → IsOne freq
    → IsThinnedTo freq (expected_count freq)
one_thinned (Fixed m) p count changed one = tt
one_thinned (Table counts total) p count changed one = tt
one_thinned (Bernoulli q) p count changed one = tt
one_thinned (Binomial trials q) p count changed one = tt
one_thinned (Poisson mean) p count changed one = tt
one_thinned (Gamma shape mean) p count changed one =
    record { beta = count.beta; few = one_beta shape mean one changed.most }

-- a gamma count of a shape below 1: what it is made from, and its budget
module _ (shape mean p : Fraction) (changed : IsNewZero (Gamma shape mean) p) where
  some : 0 < mean.num
  some = num_pos mean (lt_of_lt_of_le _ _ _ (over_pos 1 16 (omega arith) (omega arith)) changed.least)

  pub below_few : IsShape shape → shape.num < shape.den → mean /ℚ shape ≤ℚ whole 65536
  below_few s below = none_beta shape mean s.above changed.most (changed.some (below_one shape below))

  pub below_budget : (S : ℕ) → gamma_budget S 1 shape mean ≡ none_budget S (Gamma shape mean)
  unfolding count_budget
  below_budget S = where_none mean.num _ _ (λ none. absurd (omega (arith, none, some))) (λ more. refl)

module _ (freq : Freq) (sev : Sev) (items : sev.items ≡ one_item) (total : sev.total ≡ 1) where
  pub no_zero_amount : probability_of sev 0 ≡ whole 0
  no_zero_amount = ap₂ (λ xs t. weight_at xs 0 over t) items total

  pub not_thinned : thinned_mean (claims_alone freq sev) ≡ expected_count freq
  not_thinned = ap (λ t. expected_count freq *ℚ (whole 1 -ℚ t)) no_zero_amount
      ∙ ap (λ t. expected_count freq *ℚ t) (sub_zero (whole 1)) ∙ times_one _

  pub none_valid : (p : Fraction) → IsClaimCount freq → HasPartsOf48Bits (expected_count freq) → IsNewZero freq p
      → IsOne freq → IsValidUnit 1 (claims_alone freq sev)
  unfolding most_amount_at
  none_valid p count expected changed one = record {
    amounts = rw items (All-cons (λ (item : Item). item.amount ≤ 2 ^ 20) (record { amount = 1; weight = 1 }) []
        (omega arith) (All-nil (λ (item : Item). item.amount ≤ 2 ^ 20)));
    items = λ bounded. omega (arith, ap (λ (xs : List Item). length xs) items);
    count = count;
    expected = expected;
    thinned = λ unbounded. rw not_thinned (expected, changed.most);
    thinned_count = rw not_thinned (one_thinned freq p count changed one);
    clause = tt;
    zero = tt;
  }

  pub none_spread : (S : ℕ) → claims_budget S 1 (claims_alone freq sev) ≡ none_budget S freq
  none_spread S = ap₂ (λ n m. count_budget S 1 n m freq) (ap (λ (xs : List Item). length xs) items) not_thinned

  -- no number of claims above 0 comes to 0
  none_cell : (N : ℕ) → cell (count_weights freq) (probability_of sev) zero N ≡ count_weights freq zero
  unfolding sum_to power at_zero
  none_cell N = cell_stays (count_weights freq) (probability_of sev) no_zero_amount zero N (omega arith) ∙ times_one _

  pub none_holds : {B : ℕ} (grid : List (Iv B)) (none : Iv B) → 1 ≤ length grid
      → GridEncloses grid (compound_of freq sev) → none.lo ≡ low_at grid zero → none.hi ≡ high_at grid zero
      → Holds (λ N. count_weights freq zero) (λ N. sum_to N (count_weights freq)) (none.lo over 2 ^ B)
      (none.hi over 2 ^ B)
  none_holds {B} grid none some encloses low high =
      rw (low, high) (subst (λ (Q : Series). Holds Q (λ N. sum_to N (count_weights freq)) (low_at grid zero over 2 ^ B)
      (high_at grid zero over 2 ^ B)) (fun_ext none_cell) (encloses zero (omega (arith, some))))

-- the only cell is as wide as the grid
pub none_width : {B : ℕ} (grid : List (Iv B)) (none : Iv B) → length grid ≡ 1 → none.lo ≡ low_at grid zero
    → none.hi ≡ high_at grid zero → none.hi - none.lo ≡ spread grid
unfolding count_below
none_width grid none alone low high = omega (arith, whole_spread 1 grid alone, low, high)
