-- The grids of a Poisson and of a geometric count enclose their compound sums.
use Rattle.dl_panjer.proofs.Common.{◌≡◌, ℕ, zero, suc, ◌<◌, ◌^◌, true, false, List, length, sym, ap, ap₂, ◌∙◌, Fraction, ◌over◌, ◌+ℚ◌, ◌*ℚ◌, ◌/ℚ◌, ◌≤ℚ◌, ◌<ℚ◌, whole, sum_to, over_zero, pow_pos, one_pos, times_comm, one_times, times_cancel, div_times, le_trans, whole_pos, times_le_both, Holds, IsWithinOne, poisson, gamma_of, IsPanjer, compound, GridEncloses, Iv, low_at, high_at, Item, weight_at, FollowsRounded, poisson_class, plus_comm, plus_times, div_pos, lt_of_lt_of_le, le_plus, Series, IsLeastBound, gamma_class, subst, gamma, geometric_least}
use Rattle.dl_panjer.proofs.Base.{base_encloses}
use Rattle.dl_panjer.proofs.Outward.{poisson_outward, geometric_outward}

-- 1 over a series lies between fractions round the reciprocal of its least bound
reciprocal_of_least : (R : Series) (L d l h : Fraction) → IsLeastBound R L → L *ℚ d ≡ whole 1 → l ≤ℚ d → d ≤ℚ h
    → Holds (λ N. whole 1) R l h
reciprocal_of_least R L d l h least e low high = (
  (λ n u b. le_trans _ _ _ (times_le_both _ _ _ _ low (least.0 n)) (rw (times_comm d L, e) (b zero))),
  (λ n u b. rw (times_comm d L, e) at (times_le_both _ _ _ _ high (least.1 u b))),
)

module _ (beta : Fraction) where
  all : Fraction
  all = whole 1 +ℚ beta

  all_pos : whole 0 <ℚ all
  unfolding all
  all_pos = lt_of_lt_of_le (whole 0) (whole 1) (whole 1 +ℚ beta) (whole_pos 1 one_pos) (le_plus (whole 1) beta)

  shares : beta /ℚ all +ℚ whole 1 /ℚ all ≡ whole 1
  unfolding all
  shares = times_cancel _ _ all all_pos (plus_times _ _ all
      ∙ ap₂ (λ s t. s +ℚ t) (div_times beta all all_pos) (div_times (whole 1) all all_pos) ∙ plus_comm beta (whole 1)
      ∙ sym (one_times all))

  pub geometric_start : (l h : Fraction) → l ≤ℚ whole 1 /ℚ (whole 1 +ℚ beta) → whole 1 /ℚ (whole 1 +ℚ beta) ≤ℚ h
      → Holds (λ N. whole 1) (λ N. sum_to N (gamma_of (whole 1) beta)) l h
  unfolding all
  geometric_start l h low high =
      let d = whole 1 /ℚ all in
      let inverse : all *ℚ d ≡ whole 1 = times_comm _ _ ∙ div_times (whole 1) all all_pos in
      reciprocal_of_least (λ N. sum_to N (gamma_of (whole 1) beta)) all d l h
      (geometric_least (beta /ℚ all) d shares all
      (div_pos (whole 1) all (whole_pos 1 one_pos) all_pos) inverse) inverse low high

  -- the geometric count is the gamma count of shape 1
  pub geometric_class : IsPanjer (beta /ℚ (whole 1 +ℚ beta)) (beta /ℚ (whole 1 +ℚ beta)) (gamma_of (whole 1) beta)
  geometric_class =
      let x = beta /ℚ (whole 1 +ℚ beta) in
      subst (λ c. IsPanjer x c (gamma (whole 1) x)) (one_times x) (gamma_class (whole 1) x)

-- ---- the two grids

module _ {B : ℕ} (items : List Item) (T : ℕ) (v : Fraction) (grid : List (Iv B)) (T_pos : 0 < T)
    (severity : IsWithinOne (λ j. weight_at items j over T)) (no_zero : weight_at items 0 ≡ 0) where
  none : weight_at items 0 over T ≡ whole 0
  none = ap (λ n. n over T) no_zero ∙ over_zero T T_pos

  pub poisson_base : FollowsRounded true (λ s. v /ℚ whole (suc s)) items T grid
      → Holds (λ N. whole 1) (λ N. sum_to N (poisson v)) (low_at grid 0 over 2 ^ B) (high_at grid 0 over 2 ^ B)
      → GridEncloses grid (compound (poisson v) (λ j. weight_at items j over T))
  poisson_base F start =
      base_encloses (2 ^ B) (length grid) (whole 0) v (λ j. weight_at items j over T) (low_at grid) (high_at grid)
      (poisson_outward items T v T_pos grid F) (poisson v) none (poisson_class v) (pow_pos B) severity start.1 start.0

  pub geometric_base : FollowsRounded false (λ s. v /ℚ (whole 1 +ℚ v)) items T grid
      → low_at grid 0 over 2 ^ B ≤ℚ whole 1 /ℚ (whole 1 +ℚ v)
      → whole 1 /ℚ (whole 1 +ℚ v) ≤ℚ high_at grid 0 over 2 ^ B
      → GridEncloses grid (compound (gamma_of (whole 1) v) (λ j. weight_at items j over T))
  geometric_base F low high =
      let start = geometric_start v (low_at grid 0 over 2 ^ B) (high_at grid 0 over 2 ^ B) low high in
      base_encloses (2 ^ B) (length grid) (v /ℚ (whole 1 +ℚ v)) (v /ℚ (whole 1 +ℚ v)) (λ j. weight_at items j over T)
      (low_at grid) (high_at grid) (geometric_outward items T v T_pos grid F) (gamma_of (whole 1) v)
      none (geometric_class v) (pow_pos B) severity start.1 start.0
