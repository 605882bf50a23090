-- Counts of finitely many claims: their compound sums stand at one level.
use Rattle.dl_model.proofs.Common.{◌≡◌, inl, inr, ℕ, suc, zero, ◌<◌, ◌≤◌, nat_eq, arith, refl, ap, subst, subst₂, ◌∙◌, cases_lt, Fraction, ◌over◌, ◌*ℚ◌, ◌≤ℚ◌, whole, sum_to, over_le, one_pos, le_refl, le_trans, le_of_eq, zero_le, times_one, zero_times, times_le_both, sum_to_same, sum_to_grows, sum_to_longer, Series, IsBound, Holds, at_zero, power, cell, fixed, compound, nothing, Encloses, sym, Iv, low_at, high_at, all_at_zero, GridEncloses, order, pow_pos}
use Rattle.std.specs.Prelude.{List, length, ◌^◌}
use Rattle.dl_model.proofs.ValueLaws.{pick, where_factor, convolve_comm, at_zero_convolve}
use Rattle.dl_model.proofs.AddedCounts.{fixed_past}

-- A value that is reached at some level, is passed at none, and lies over a whole weight of 1.
pub holds_reached : (Q R : Series) (v l h : Fraction) (far : ℕ) → Q far ≡ v → IsBound Q v → R far ≡ whole 1
    → IsBound R (whole 1) → l ≤ℚ v → v ≤ℚ h → Holds Q R l h
holds_reached Q R v l h far reached below one most low high = (
  (λ n u bound. grw (order, most n) (rw times_one (le_trans _ _ _ low (subst (λ t. t ≤ℚ u) reached (bound far))))),
  (λ n u bound. le_trans _ _ _ (below n) (le_trans _ _ _ high (subst (λ t. t ≤ℚ h *ℚ u) (times_one h)
      (times_le_both h h _ _ (le_refl h) (subst (λ t. t ≤ℚ u) one (bound far)))))),
)

-- sums of items that vanish past some place are bounded by the sum up to it
pub bounded_by_all : (far : ℕ) (g : ℕ → Fraction) → ((n : ℕ) → far < n → g n ≡ whole 0)
    → IsBound (λ N. sum_to N g) (sum_to far g)
bounded_by_all far g none N = elim (cases_lt far N) [
  | inl more ↦ le_of_eq _ _ (sum_to_longer far N g (omega arith) none)
  | inr few ↦ sum_to_grows N far g few
]

module _ (w f : ℕ → Fraction) (far : ℕ) (one : sum_to far w ≡ whole 1) (none : (n : ℕ) → far < n → w n ≡ whole 0) where
  pub finite_holds : (y : ℕ) (l h : Fraction) → l ≤ℚ cell w f y far → cell w f y far ≤ℚ h
      → Holds (cell w f y) (λ N. sum_to N w) l h
  finite_holds y l h low high = holds_reached (cell w f y) (λ N. sum_to N w) (cell w f y far) l h far refl
      (bounded_by_all far (λ n. w n *ℚ power f n y) (λ n b. simp (none n b, zero_times))) one
      (λ N. subst (λ t. sum_to N w ≤ℚ t) one (bounded_by_all far w none N)) low high

  pub finite_encloses : (S K : ℕ) (lo hi : ℕ → ℕ) → ((y : ℕ) → y < K → lo y over S ≤ℚ cell w f y far)
      → ((y : ℕ) → y < K → cell w f y far ≤ℚ hi y over S) → Encloses S K lo hi (compound w f)
  finite_encloses S K lo hi low high y b = finite_holds y _ _ (low y b) (high y b)

-- ---- the outcome 0

pub nothing_encloses : (S K : ℕ) (lo hi : ℕ → ℕ) → 0 < S → lo 0 ≤ S → S ≤ hi 0 → ((y : ℕ) → 0 < y → lo y ≡ 0)
    → Encloses S K lo hi nothing
unfolding at_zero
nothing_encloses S K lo hi pos low high none zero b =
    holds_reached (λ N. whole 1) (λ N. whole 1) (whole 1) _ _ 0 refl (λ N. le_refl _) refl (λ N. le_refl _)
    (over_le _ _ 1 1 pos one_pos (omega arith)) (over_le 1 1 _ _ one_pos pos (omega arith))
nothing_encloses S K lo hi pos low high none (suc y) b =
    holds_reached (λ N. whole 0) (λ N. whole 1) (whole 0) _ _ 0 refl (λ N. le_refl _) refl (λ N. le_refl _)
    (over_le _ _ 0 1 pos one_pos (omega (arith, none (suc y) (omega arith)))) (zero_le _)

-- a grid with the whole weight at 0
pub all_at_zero_encloses : {B : ℕ} (g : List (Iv B)) → ((x : ℕ) → low_at g x ≡ all_at_zero (2 ^ B) x)
    → ((x : ℕ) → high_at g x ≡ all_at_zero (2 ^ B) x) → GridEncloses g nothing
unfolding all_at_zero
all_at_zero_encloses {B} g low high =
    nothing_encloses (2 ^ B) (length g) (low_at g) (high_at g) (pow_pos B) (omega (arith, low 0))
    (omega (arith, high 0))
    above
  where
    above : (y : ℕ) → 0 < y → low_at g y ≡ 0
    above zero h = absurd (omega arith)
    above (suc y) h = low (suc y)

-- ---- exactly m claims

pub fixed_cell : (m : ℕ) (f : ℕ → Fraction) (y N : ℕ) → m ≤ N → cell (fixed m) f y N ≡ power f m y
fixed_cell m f y N h = sum_to_same N _ _ (λ n b. sym (where_factor (nat_eq n m) (power f n y))) ∙ pick N m (λ n. power f n y) h

pub fixed_sum : (m N : ℕ) → m ≤ N → sum_to N (fixed m) ≡ whole 1
fixed_sum m N h = pick N m (λ n. whole 1) h

-- the value of a cell of exactly m claims
pub fixed_value : (m : ℕ) (f : ℕ → Fraction) (y : ℕ) (l h : Fraction)
    → Holds (cell (fixed m) f y) (λ N. sum_to N (fixed m)) l h → (l ≤ℚ power f m y) × (power f m y ≤ℚ h)
fixed_value m f y l h v = (
  subst (λ t. t ≤ℚ power f m y) (ap (λ t. l *ℚ t) one ∙ times_one l) (v.0 m (power f m y) (λ N.
      subst (λ t. cell (fixed m) f y N ≤ℚ t) there
      (bounded_by_all m (λ n. fixed m n *ℚ power f n y) (λ n b. simp (fixed_past m n b, zero_times)) N))),
  subst₂ (λ s t. s ≤ℚ t) there (times_one h) (v.1 m (whole 1) (λ N.
      subst (λ t. sum_to N (fixed m) ≤ℚ t) one (bounded_by_all m (fixed m) (fixed_past m) N))),
)
  where
    there : cell (fixed m) f y m ≡ power f m y
    there = fixed_cell m f y m (omega arith)

    one : sum_to m (fixed m) ≡ whole 1
    one = fixed_sum m m (omega arith)

-- one claim comes to what its amount is
pub power_one : (f : ℕ → Fraction) → power f 1 ≡ f
unfolding power
power_one f = convolve_comm f at_zero ∙ at_zero_convolve f

pub severity_between : (S K : ℕ) (lo hi : ℕ → ℕ) (f : ℕ → Fraction) → Encloses S K lo hi (compound (fixed 1) f)
    → (y : ℕ) → y < K → (lo y over S ≤ℚ f y) × (f y ≤ℚ hi y over S)
severity_between S K lo hi f e y b =
    let v = fixed_value 1 f y (lo y over S) (hi y over S) (e y b) in
    (subst (λ g. lo y over S ≤ℚ g y) (power_one f) v.0, subst (λ g. g y ≤ℚ hi y over S) (power_one f) v.1)
